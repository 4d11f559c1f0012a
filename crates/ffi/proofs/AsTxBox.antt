-- What C keeps of a transaction, a box, and what was in it lie in memory in one form: an address, then an allocator of no bytes.
use mathlib.Core.List.{[]}
use mir.Syntax.{impl, tnil, dnil}
use mir.Val.{Val, vstruct, vcons, vnil, has_ty, WT}
use lib.Dec.{T, lit<}
use denote.RawPtr.{Ptr, block_ptr, null_ptr, ptr_val}
use denote.Signature.{Slot, plain}
use Rattle.std.proofs.BoxSteps.Form.{Bx, box_ty, box_typed}
use Rattle.std.proofs.ResultValues.{and_tt}
use Rattle.std.proofs.alloc.Calls.{Fits, α}
use Rattle.std.specs.contracts.alloc.Global as heap
use Rattle.std.proofs.alloc.Global.TheLaws as heap_laws
use Rattle.std.specs.contracts.impls.GlobalAllocator.TheImpl.{ghosts, dict}
use Rattle.sighash.specs.contracts.precomputed_tx.PrecomputedTx as tx
use Rattle.sighash.proofs.precomputed_tx.PrecomputedTx.TheLaws as tx_laws
use Rattle.ffi.specs.contracts.box_address.Unboxed as unboxed
use Rattle.ffi.specs.contracts.kept_tx.KeptTx as kept

-- the box of a transaction
abbrev pub E : Bx
E = record {
  row = tx.the_row;
  laws = tx_laws.the_row_laws;
  al = record { row = heap.the_row; laws = heap_laws.the_row_laws; g = ghosts; d = dict; drops = impl [] tnil dnil };
}

abbrev pub TheUnboxed : Slot 0
TheUnboxed = plain (λ _. unboxed.the_row tx.the_row heap.the_row ghosts)

abbrev pub TheKeptTx : Slot 0
TheKeptTx = plain (λ _. kept.the_row)

-- ---- an address that may be null

abbrev pub both : Ptr → Val → Val
both p h = vstruct (vcons (ptr_val p) (vcons h vnil))

pub both_typed : (p : Ptr) (h : Val) → Fits E.al h → T (has_ty (box_ty E) (both p h)) × WT (both p h)
both_typed (block_ptr b o) h fits = box_typed E h b o fits
both_typed null_ptr h fits = (and_tt (has_ty (α E.al) h) fits.0, (record { fits = lit< tt }, (fits.1, tt)))
