-- Tokens that are written one after the other.
use Rattle.std.specs.Prelude.{◌++◌, ◌∷◌, [], ℕ, List, Option, None, Some, Result, Ok, Err}
use Rattle.std.specs.List.{flat_map}
use Rattle.std.proofs.Common.{◌≡◌, refl, sym, ap, ◌∙◌}
use Rattle.std.proofs.lemmas.List.{append_assoc, append-nil}
use Rattle.json.specs.Json.{Members, no_members}
use Rattle.json.specs.Token.{Token}
use Rattle.json.specs.Tree.{items_tokens, members_tokens}
use Rattle.json.specs.Written.{Written}
use Rattle.signatures.specs.Triple.{Triple}
use Rattle.tree.specs.declared.tip.Tip.{Tip}
use Rattle.serving.specs.Answers.{Adds, members, now_of, height_if, coin_items, line_items, spent_items, tip_items, step_items}
use Rattle.serving.specs.declared.answer.CoinAt.{CoinAt}
use Rattle.serving.specs.declared.answer.SpentCoin.{SpentCoin}
use Rattle.serving.specs.declared.answer.Step.{Step}
use Rattle.serving.specs.inside.Front.{coin_tokens, line_tokens, spent_tokens, tip_tokens, step_tokens}

pub then : {E : Type 0} {u : Unit {0}} {r : Result (Unit {0}) E} {a b c : Written} {ts us : List Token}
    → Adds {E = E} (Ok u) a b ts → Adds r b c us → Adds r a c (ts ++ us)
then {r = Ok v} {a} {b} {c} {ts} {us} h k = record {
  before = k.before ∙ h.before;
  tokens = k.tokens ∙ ap (λ all. all ++ us) h.tokens ∙ append_assoc a.tokens ts us;
}
then {r = Err e} h k = record { before = k.before; tokens = k.tokens }

-- what stands behind a moment
pub behind_moment : (moment : Option ℕ) (rest : Members) → members (now_of moment no_members) ++ members rest ≡ members (now_of moment rest)
behind_moment None rest = refl
behind_moment (Some moment) rest = refl

-- a height that may be there is the last member
pub height_closed : (name : List ℕ) (height : Option ℕ) → members (height_if name height no_members) ++ Token.end_object ∷ [] ≡ members_tokens (height_if name height no_members)
height_closed name None = refl
height_closed name (Some height) = refl

-- the tokens of lists, with the closing bracket
all_tips : (tips : List Tip) → flat_map tip_tokens tips ++ Token.end_array ∷ [] ≡ items_tokens (tip_items tips)
all_tips [] = refl
all_tips (t ∷ ts) =
    append_assoc (tip_tokens t) (flat_map tip_tokens ts) (Token.end_array ∷ []) ∙ ap (λ rest. tip_tokens t ++ rest) (all_tips ts)

all_steps : (steps : List Step) → flat_map step_tokens steps ++ Token.end_array ∷ [] ≡ items_tokens (step_items steps)
all_steps [] = refl
all_steps (s ∷ ss) =
    append_assoc (step_tokens s) (flat_map step_tokens ss) (Token.end_array ∷ []) ∙ ap (λ rest. step_tokens s ++ rest) (all_steps ss)

pub tips_closed : (tips : List Tip) → flat_map tip_tokens tips ++ Token.end_array ∷ [] ≡ items_tokens (tip_items tips) ++ []
tips_closed tips = all_tips tips ∙ sym (append-nil (items_tokens (tip_items tips)))

pub steps_closed : (steps : List Step) → flat_map step_tokens steps ++ Token.end_array ∷ [] ≡ items_tokens (step_items steps) ++ []
steps_closed steps = all_steps steps ∙ sym (append-nil (items_tokens (step_items steps)))

all_coins : (coins : List CoinAt) → flat_map coin_tokens coins ++ Token.end_array ∷ [] ≡ items_tokens (coin_items coins)
all_coins [] = refl
all_coins (c ∷ cs) =
    append_assoc (coin_tokens c) (flat_map coin_tokens cs) (Token.end_array ∷ []) ∙ ap (λ rest. coin_tokens c ++ rest) (all_coins cs)

pub coins_closed : (coins : List CoinAt) → flat_map coin_tokens coins ++ Token.end_array ∷ [] ≡ items_tokens (coin_items coins) ++ []
coins_closed coins = all_coins coins ∙ sym (append-nil (items_tokens (coin_items coins)))

all_spent : (coins : List SpentCoin) → flat_map spent_tokens coins ++ Token.end_array ∷ [] ≡ items_tokens (spent_items coins)
all_spent [] = refl
all_spent (c ∷ cs) =
    append_assoc (spent_tokens c) (flat_map spent_tokens cs) (Token.end_array ∷ []) ∙ ap (λ rest. spent_tokens c ++ rest) (all_spent cs)

pub spent_closed : (coins : List SpentCoin) → flat_map spent_tokens coins ++ Token.end_array ∷ [] ≡ items_tokens (spent_items coins) ++ []
spent_closed coins = all_spent coins ∙ sym (append-nil (items_tokens (spent_items coins)))

all_lines : (ts : List Triple) → flat_map line_tokens ts ++ Token.end_array ∷ [] ≡ items_tokens (line_items ts)
all_lines [] = refl
all_lines (t ∷ ts) =
    append_assoc (line_tokens t) (flat_map line_tokens ts) (Token.end_array ∷ []) ∙ ap (λ rest. line_tokens t ++ rest) (all_lines ts)

pub wants_closed : (ts : List Triple) → (flat_map line_tokens ts ++ Token.end_array ∷ []) ++ Token.end_object ∷ []
    ≡ (items_tokens (line_items ts) ++ Token.end_object ∷ []) ++ []
wants_closed ts =
    ap (λ lines. lines ++ Token.end_object ∷ []) (all_lines ts) ∙ sym (append-nil (items_tokens (line_items ts) ++ Token.end_object ∷ []))
