-- The tokens of a response, as they are written.
use Rattle.std.specs.Prelude.{◌++◌, ◌∷◌, [], List, ℕ, codes}
use Rattle.std.proofs.Common.{◌≡◌, refl, ap, ◌∙◌, sym}
use Rattle.std.proofs.lemmas.List.{append_assoc}
use Rattle.json.specs.Json.{Members, no_members, member}
use Rattle.json.specs.Token.{Token}
use Rattle.json.specs.Tree.{json_tokens, members_tokens}
use Rattle.serving.specs.Answers.{members, id_json, response}
use Rattle.serving.specs.inside.Front.{front}
use Rattle.serving.specs.declared.request_id.RequestId.{RequestId}

-- the members of an object, and the closing bracket
pub members-closed : (ms : Members) → members_tokens ms ≡ members ms ++ Token.end_object ∷ []
members-closed no_members = refl
members-closed (member name j rest) =
    ap (λ ts. Token.key name ∷ (json_tokens j ++ ts)) (members-closed rest)
    ∙ ap (λ ts. Token.key name ∷ ts) (sym (append_assoc (json_tokens j) (members rest) (Token.end_object ∷ [])))

-- the object of a response between the tokens before and behind it
nested : (before opened ms closed : List Token) (whole : List Token) → whole ≡ ms ++ closed
    → before ++ (opened ++ (whole ++ closed)) ≡ (((before ++ opened) ++ ms) ++ closed) ++ closed
nested before opened ms closed whole is =
    ap (λ ts. before ++ (opened ++ (ts ++ closed))) is
    ∙ sym (append_assoc before opened ((ms ++ closed) ++ closed))
    ∙ sym (append_assoc (before ++ opened) (ms ++ closed) closed)
    ∙ ap (λ ts. ts ++ closed) (sym (append_assoc (before ++ opened) ms closed))

pub closed : (name : List ℕ) (i : RequestId) (ms : Members) → json_tokens (response name i ms)
    ≡ (((front i ++ Token.key name ∷ Token.begin_object ∷ []) ++ members ms) ++ Token.end_object ∷ []) ++ Token.end_object ∷ []
closed name i ms =
    let opened = Token.key name ∷ Token.begin_object ∷ [] in
    ap (λ ts. Token.begin_object ∷ Token.key (codes "jsonrpc") ∷ Token.string (codes "2.0") ∷ Token.key (codes "id") ∷ ts)
    (nested (json_tokens (id_json i)) opened (members ms) (Token.end_object ∷ []) (members_tokens ms) (members-closed ms))
