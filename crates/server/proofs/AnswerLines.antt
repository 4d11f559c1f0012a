-- Lines that tell what the node answered.
use Rattle.std.specs.Prelude.{◌⊎◌, ◌++◌, ℕ, List, [], codes, Option, None, Some, Result, Ok, Err, IfOk, IfSome, Vec}
use Rattle.std.specs.Global.{Global}
use Rattle.std.specs.Fmt.{WritesText}
use Rattle.std.proofs.Common.{◌≡◌, ◌∙◌, ap, inl}
use Rattle.std.proofs.lemmas.Fmt.{contents_after_writes}
use Rattle.json.specs.Json.{no_members}
use Rattle.serving.specs.Answers.{text}
use Rattle.serving.specs.declared.refusal.Refusal.TheVariants as refusal
use Rattle.serving.specs.declared.request_id.RequestId.{RequestId}
use Rattle.server.specs.inside.Answers.{answer_at, error_of}

-- a reply's text that was written into an empty one
pub reply_told : {W E : Type 0} (contents : W → List ℕ) (i : RequestId) (at : ℕ) (o : Option (List ℕ)) (old new : W) (word : List ℕ) (line : Result (Vec ℕ Global) E)
    → contents old ≡ [] → WritesText (λ s bytes t. contents t ≡ contents s ++ bytes) old o new → word ≡ contents new
    → IfOk line (λ l. l.items ≡ answer_at i at (text (codes "answer") word no_members))
    → IfOk line (λ l. IfSome o (λ told. l.items ≡ answer_at i at (text (codes "answer") told no_members)) ⊎ (l.items ≡ error_of i refusal.Owed))
reply_told contents i at None old new word (Ok line) empty wrote is told = inl tt
reply_told contents i at (Some bs) old new word (Ok line) empty wrote is told =
    inl (told ∙ ap (λ (w : List ℕ). answer_at i at (text (codes "answer") w no_members))
    (is ∙ contents_after_writes _ contents (λ w l v t. t) old bs new wrote ∙ ap (λ (front : List ℕ). front ++ bs) empty))
reply_told contents i at o old new word (Err e) empty wrote is told = told
