-- The blocks that entries bring, one after the other.
use Rattle.std.specs.Prelude.{◌⊎◌, ◌≢◌, Option, None, Some, is_some, Result, Ok, Err, IfOk, MatchOption, Vec}
use Rattle.std.specs.Global.{Global}
use Rattle.std.specs.Option.{option_map, option_and_then}
use mathlib.Core.List.{IsPrefix}
use Rattle.std.proofs.Common.{◌≡◌, ◌∙◌, ℕ, suc, ◌+◌, ◌<◌, true, false, List, [], ◌∷◌, ◌++◌, length, take, get_or, refl, ap, sym, subst, append_assoc, inl, inr}
use Rattle.std.proofs.lemmas.Bool.{true≢false}
use Rattle.std.proofs.lemmas.List.{append-nil, take_more}
use Rattle.json.specs.Json.{Members}
use Rattle.hash.specs.declared.id.Id.{Id}
use Rattle.block.specs.declared.block.Block.{Block}
use Rattle.block.specs.BlockOfBytes.{block_of_bytes}
use Rattle.block.specs.Grammar.{header}
use Rattle.block.specs.Identity.{id_of}
use Rattle.model.specs.declared.command.Command.TheVariants as command
use Rattle.model.specs.declared.entry.Entry.{Entry}
use Rattle.tree.specs.Branches.{Blocks, block_at, height, id_at, place_of}
use Rattle.tree.specs.Limits.{max_blocks}
use Rattle.tree.specs.Names.{names}
use Rattle.activate.specs.Lookups.{ancestor_at, ancestor_of, header_of, height_of}
use Rattle.signatures.specs.Known.{Under}
use Rattle.model.specs.History.{state_at}
use Rattle.view.specs.Origin.{Origin, known_in, machine}
use Rattle.node.specs.Pass.{IsLonger, IsRead, Pass}
use Rattle.node.specs.Told.{best_in}
use Rattle.serving.specs.declared.request_id.RequestId.{RequestId}
use Rattle.server.specs.inside.Answers.{IsDeep, IsReadLine, TellsHeader, absent_answer, confirmations_of, header_answer}
use Rattle.server.specs.inside.Brought.{AreBrought, IsBrought, IsTreeAfter, may_be_kept}

-- an entry more
pub brought_push : (t u v : Blocks Block) (es : List Entry) (e : Entry) → AreBrought t es u → IsTreeAfter u e v → AreBrought t (es ++ e ∷ []) v
brought_push t u v [] e are is = (v, subst (λ (s : Blocks Block). IsTreeAfter s e v) are is, refl)
brought_push t u v (x ∷ es) e are is = (are.0, are.1, brought_push are.0 u v es e are.2 is)

-- of the longer of two lists the second is a beginning
pub begins_longer : (xs ys zs : List Entry) → IsLonger xs ys zs → IsPrefix ys zs
begins_longer xs ys zs (inl first) = subst (λ (l : List Entry). IsPrefix ys l) (sym first.0) first.1
begins_longer xs ys zs (inr second) = ([], append-nil ys ∙ sym second.0)

-- a beginning of one more entry
pub take_next : (es : List Entry) (n : ℕ) (e : Entry) → n < length es → e ≡ get_or es n e → take (n + 1) es ≡ take n es ++ e ∷ []
take_next es n e lt at = take_more es n e lt ∙ ap (λ (x : Entry). take n es ++ x ∷ []) (sym at)

pub none_there : (o : Option ℕ) → is_some o ≡ false → o ≡ None
none_there None e = refl
none_there (Some p) e = absurd (true≢false e)

-- nothing stands at a height under a block that isn't there
pub nothing_above : (t : Blocks Block) (best id : Id) (h : ℕ) → place_of names t best ≡ None → ancestor_of t best h ≢ Some id
nothing_above t best id h none = λ e.
    some_none (sym e ∙ ap (λ (o : Option ℕ). option_map (id_at names t) (option_and_then (λ p. ancestor_at t p h) o)) none)
  where
    some_none : {i : Id} → ◌≡◌ {A = Option Id} (Some i) None → ⊥
    some_none e = cc

pub top_height : (t : Blocks Block) (best : Id) (p : ℕ) → place_of names t best ≡ Some p → height_of t best ≡ Some (height t p)
top_height t best p e = ap (option_map (height t)) e

-- an entry brings this block
pub brought_so : (t : Blocks Block) (e : Entry) (b new : Block) (bytes : List ℕ) (now parent : ℕ) → e.command ≡ command.Submit bytes now → block_of_bytes bytes ≡ Some b → may_be_kept e.reply ≡ true
    → place_of names t (id_of b.header) ≡ None → suc (length t) < max_blocks → place_of names t b.header.prev ≡ Some parent → new ≡ b → IsBrought t e new parent
brought_so t e b new bytes now parent asked read kept unknown room up same = subst (λ (x : Block). IsBrought t e x parent) (sym same) (record {
  bytes = bytes;
  now = now;
  command_is = asked;
  block_is = read;
  kept = kept;
  new = unknown;
  room = room;
  parent_is = up;
})

abbrev from_some : Option (List ℕ) → List ℕ
from_some None = []
from_some (Some bytes) = bytes

-- the line of a header
pub header_told : {E : Type 0} (t : Blocks Block) (best id : Id) (i : RequestId) (at p h : ℕ) (bytes : List ℕ) (deep : Option ℕ) (ms : Members) (line : Result (Vec ℕ Global) E)
    → place_of names t id ≡ Some p → header_of t id ≡ Some bytes → h ≡ height t p → IsDeep t best id (height t p) deep → ms ≡ header_answer bytes h (confirmations_of deep)
    → IfOk line (λ l. IsReadLine i at ms l.items) → IfOk line (λ l. TellsHeader t best id i at l.items)
header_told t best id i at p h bytes deep ms (Ok l) here spelled high is members told =
    subst (λ (o : Option ℕ). MatchOption o (IsReadLine i at absent_answer l.items)
    (λ x. (n : Option ℕ) × IsDeep t best id (height t x) n × IsReadLine i at (header_answer (header.spell (block_at names t x).header) (height t x) (confirmations_of n)) l.items))
    (sym here) (
      deep,
      is,
      subst (λ (bs : List ℕ). IsReadLine i at (header_answer bs (height t p) (confirmations_of deep)) l.items) own
          (subst (λ (n : ℕ). IsReadLine i at (header_answer bytes n (confirmations_of deep)) l.items) high (subst (λ (m : Members). IsReadLine i at m l.items) members told)),
    )
  where
    own : bytes ≡ header.spell (block_at names t p).header
    own = ap from_some (sym spelled ∙ ap (option_map (λ x. header.spell (block_at names t x).header)) here)
header_told t best id i at p h bytes deep ms (Err e) here spelled high is members told = told

-- a beginning's beginning
pub begins_all : {A : Type 0} (xs ys zs : List A) → IsPrefix xs ys → IsPrefix ys zs → IsPrefix xs zs
begins_all xs ys zs p q = (p.0 ++ q.0, sym (append_assoc xs p.0 q.0) ∙ ap (λ (l : List _). l ++ q.0) p.1 ∙ q.1)

-- a read of a seat that had heard something before
pub read_from : (p heard q : Pass) (at : ℕ) (best : Id) → heard.origin ≡ p.origin → heard.mine ≡ p.mine → heard.wants ≡ p.wants → IsRead heard q (best_in heard.origin) at best → IsRead p q (best_in p.origin) at best
read_from p heard q at best same mine wants read = record {
  at_is = read.at_is;
  value_is = subst (λ (o : Origin). Under (known_in o q.seen) (λ valid. best ≡ best_in o valid (state_at (machine o valid) q.seen at))) same read.value_is;
  mine_is = read.mine_is ∙ mine;
  wants_is = read.wants_is ∙ wants;
}
