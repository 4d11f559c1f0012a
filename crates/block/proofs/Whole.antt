-- Bytes that are a block and nothing else.
use Rattle.std.proofs.Common.{◌≡◌, Bool, ◌⊎◌, inl, inr, subst, ℕ, ◌<◌, List, [], ◌++◌, length, None, Result, Ok, Err, refl, sym, ap, ◌∙◌}
use Rattle.std.specs.Prelude.{IfSome}
use Rattle.std.proofs.lemmas.List.{append-nil}
use Rattle.wire.specs.declared.fault.WireFault.{WireFault}
use Rattle.wire.specs.declared.fault.WireFault.TheVariants as wire
use Rattle.wire.specs.Grammar.{IsBytes}
use Rattle.wire.specs.laws.Reader.{found_law, refused_law, same_read, same_fault, not_both}
use Rattle.txn.specs.declared.fault.TxFault.{TxFault}
use Rattle.txn.specs.declared.fault.TxFault.TheVariants as txn
use Rattle.txn.specs.Fault.{wire_fault_of}
use Rattle.block.specs.declared.block.Block.{Block}
use Rattle.block.specs.declared.fault.ReadFault.{ReadFault}
use Rattle.block.specs.declared.fault.ReadFault.TheVariants as faults
use Rattle.block.specs.inside.Fault.{read_fault_of}
use Rattle.block.specs.Grammar.{block_by}
use Rattle.block.specs.Whole.{FaultyBy, HasExtra}
use Rattle.block.specs.computed.Reader.{block_by_at}
use Rattle.block.specs.laws.Reader.{block_by_decides}
use Rattle.block.specs.BlockOfBytes.{block_of_bytes_by}
use Rattle.block.specs.laws.BlockBytes.{read_again, read_faulty, read_extra, decoded-faulty}

abbrev pub told_wire : WireFault → ReadFault
told_wire wire.Short = faults.Short
told_wire wire.LongForm = faults.LongForm
told_wire wire.TooLarge = faults.TooLarge

pub whole_found : (by : Bool) (bytes : List ℕ) (b : Block) (rest : List ℕ) → IsBytes bytes → block_by_at by bytes ≡ Ok (b, rest) → rest ≡ [] → (block_by by).Lawful b × (bytes ≡ (block_by by).spell b)
whole_found by bytes b rest fits e none =
    let f = found_law (block_by by) (block_by_at by) (block_by_decides by) bytes b rest fits e in
    (f.0, f.1 ∙ ap (λ (t : List ℕ). (block_by by).spell b ++ t) none ∙ append-nil ((block_by by).spell b))

abbrev pub refusal : ReadFault → Result Block ReadFault
refusal e = Err e

pub whole_extra : (by : Bool) (bytes : List ℕ) (b : Block) (rest : List ℕ) → IsBytes bytes → block_by_at by bytes ≡ Ok (b, rest) → 0 < length rest → HasExtra by bytes
whole_extra by bytes b rest fits e some =
    let f = found_law (block_by by) (block_by_at by) (block_by_decides by) bytes b rest fits e in
    (b, rest, f.0, f.1, some)

pub whole_reads : (by : Bool) (bytes : List ℕ) (x : Block) (rest : List ℕ) (b : Block) → block_by_at by bytes ≡ Ok (x, rest) → (block_by by).Lawful b → bytes ≡ (block_by by).spell b → (x ≡ b) × (rest ≡ [])
whole_reads by bytes x rest b e lawful is = same_read x b rest [] (sym e ∙ read_again by bytes b lawful is)

pub whole_refused : (by : Bool) (bytes : List ℕ) (f : TxFault) → IsBytes bytes → IfSome (wire_fault_of f) (λ w. block_by_at by bytes ≡ Err w) → (read_fault_of f ≡ faults.Memory) ⊎ FaultyBy by (read_fault_of f) bytes
whole_refused by bytes txn.Short fits e = inr (refused_law (block_by by) (block_by_at by) (block_by_decides by) bytes wire.Short fits e)
whole_refused by bytes txn.LongForm fits e = inr (refused_law (block_by by) (block_by_at by) (block_by_decides by) bytes wire.LongForm fits e)
whole_refused by bytes txn.TooLarge fits e = inr (refused_law (block_by by) (block_by_at by) (block_by_decides by) bytes wire.TooLarge fits e)
whole_refused by bytes txn.Memory fits e = inl refl

pub only_memory : (by : Bool) (bytes : List ℕ) (f : TxFault) (b : Block) → IfSome (wire_fault_of f) (λ w. block_by_at by bytes ≡ Err w) → (block_by by).Lawful b → bytes ≡ (block_by by).spell b → read_fault_of f ≡ faults.Memory
only_memory by bytes txn.Short b e lawful is = absurd (not_both b [] wire.Short (sym (read_again by bytes b lawful is) ∙ e))
only_memory by bytes txn.LongForm b e lawful is = absurd (not_both b [] wire.LongForm (sym (read_again by bytes b lawful is) ∙ e))
only_memory by bytes txn.TooLarge b e lawful is = absurd (not_both b [] wire.TooLarge (sym (read_again by bytes b lawful is) ∙ e))
only_memory by bytes txn.Memory b e lawful is = refl

-- a refusal of the front is of the fault that the bytes have
same_wire : (by : Bool) (bytes : List ℕ) (f g : WireFault) → block_by_at by bytes ≡ Err f → (block_by by).Faulty g bytes → f ≡ g
same_wire by bytes f g e faulty = same_fault {A = Block} f g (sym e ∙ read_faulty by bytes g faulty)

one_fault : (by : Bool) (bytes : List ℕ) (f : WireFault) (e : ReadFault) → block_by_at by bytes ≡ Err f → FaultyBy by e bytes → e ≡ told_wire f
one_fault by bytes f faults.Short is faulty = ap told_wire (sym (same_wire by bytes f wire.Short is faulty))
one_fault by bytes f faults.LongForm is faulty = ap told_wire (sym (same_wire by bytes f wire.LongForm is faulty))
one_fault by bytes f faults.TooLarge is faulty = ap told_wire (sym (same_wire by bytes f wire.TooLarge is faulty))
one_fault by bytes f faults.Extra is faulty = absurd (not_both faulty.0 faulty.1 f (sym (read_extra by bytes faulty) ∙ is))
one_fault by bytes f faults.Memory is faulty = absurd faulty

pub front_refuses : (by : Bool) (bytes : List ℕ) (f : TxFault) (e : ReadFault) → IfSome (wire_fault_of f) (λ w. block_by_at by bytes ≡ Err w) → FaultyBy by e bytes → (read_fault_of f ≡ faults.Memory) ⊎ (read_fault_of f ≡ e)
front_refuses by bytes txn.Short e is faulty = inr (sym (one_fault by bytes wire.Short e is faulty))
front_refuses by bytes txn.LongForm e is faulty = inr (sym (one_fault by bytes wire.LongForm e is faulty))
front_refuses by bytes txn.TooLarge e is faulty = inr (sym (one_fault by bytes wire.TooLarge e is faulty))
front_refuses by bytes txn.Memory e is faulty = inl refl

-- where the front was read, the only fault is that bytes stand behind it
pub extra_only : (by : Bool) (bytes : List ℕ) (b : Block) (rest : List ℕ) (e : ReadFault) → block_by_at by bytes ≡ Ok (b, rest) → FaultyBy by e bytes → (e ≡ faults.Extra) × (0 < length rest)
extra_only by bytes b rest faults.Short is faulty = absurd (not_both b rest wire.Short (sym is ∙ read_faulty by bytes wire.Short faulty))
extra_only by bytes b rest faults.LongForm is faulty = absurd (not_both b rest wire.LongForm (sym is ∙ read_faulty by bytes wire.LongForm faulty))
extra_only by bytes b rest faults.TooLarge is faulty = absurd (not_both b rest wire.TooLarge (sym is ∙ read_faulty by bytes wire.TooLarge faulty))
extra_only by bytes b rest faults.Extra is faulty =
    let k = same_read faulty.0 b faulty.1 rest (sym (read_extra by bytes faulty) ∙ is) in
    (refl, subst (λ (t : List ℕ). 0 < length t) k.1 faulty.4)
extra_only by bytes b rest faults.Memory is faulty = absurd faulty

pub as_refusal : (f e : ReadFault) → (f ≡ faults.Memory) ⊎ (f ≡ e) → (refusal f ≡ refusal faults.Memory) ⊎ (refusal f ≡ refusal e)
as_refusal f e (inl h) = inl (ap refusal h)
as_refusal f e (inr h) = inr (ap refusal h)

pub decodes_or_not : (by : Bool) (bytes : List ℕ) (e : ReadFault) → (e ≡ faults.Memory) ⊎ FaultyBy by e bytes → (e ≡ faults.Memory) ⊎ (block_of_bytes_by by bytes ≡ None)
decodes_or_not by bytes e (inl h) = inl h
decodes_or_not by bytes e (inr h) = inr (decoded-faulty by bytes e h)
