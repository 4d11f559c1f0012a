use Rattle.std.proofs.Common.{◌≡◌, ℕ, ◌≤◌, ◌+◌, List, [], ◌∷◌, ◌++◌, true, false, not, length, take, drop, map, refl, sym, ap, ◌∙◌, append_assoc, length-append, length-drop, arith}
use Rattle.std.specs.List.{concat, filter}
use Rattle.std.proofs.lemmas.List.{append-nil, map-append, take-append-drop}
use Rattle.std.proofs.Math.Seq.{take-append_seam, drop-append_seam}
use Rattle.std.proofs.lemmas.List.Folds.{concat-append}
use Rattle.script.specs.Ops.{ops, rest}
use Rattle.script.specs.Removal.{is_among, without}
use Rattle.script.specs.laws.Ops.{rest-more, rest-none, take_more-front, drop_more-front}

-- an opcode at the front that equals a piece
pub without-taken : (pieces : List (List ℕ)) (bytes op more : List ℕ) → ops bytes ≡ op ∷ ops more → bytes ≡ op ++ more → is_among pieces op ≡ true → without pieces bytes ≡ without pieces more
unfolding without
without-taken pieces bytes op more e w h = rw (rest-more bytes op more e w, e, h) refl

-- one that equals none
pub without-kept : (pieces : List (List ℕ)) (bytes op more : List ℕ) → ops bytes ≡ op ∷ ops more → bytes ≡ op ++ more → is_among pieces op ≡ false → without pieces bytes ≡ op ++ without pieces more
unfolding without
without-kept pieces bytes op more e w h =
    rw (rest-more bytes op more e w, e, h)
    (append_assoc op (concat (filter (λ o. not (is_among pieces o)) (ops more))) (rest more))

-- none at the front
pub without-end : (pieces : List (List ℕ)) (bytes : List ℕ) → ops bytes ≡ [] → without pieces bytes ≡ bytes
unfolding without
without-end pieces bytes e = rw (rest-none bytes e, e) refl

-- ---- while a script is gone through
-- the first `kept` bytes of what is ahead stay; the bytes after them are still to be gone through
pub record Goes (pieces : List (List ℕ)) (script ahead bytes done : List ℕ) (kept : ℕ) : Type 0 where
  pub shorter : length ahead ≤ length script
  pub inside : kept ≤ length ahead
  pub after : drop kept ahead ≡ bytes
  pub parts : done ++ (take kept ahead ++ without pieces bytes) ≡ without pieces script

module _ (pieces : List (List ℕ)) (script ahead bytes done op more : List ℕ) (kept : ℕ) where
  -- an opcode is taken out: what stood before it is done
  pub goes-taken : (next finished : List ℕ) → Goes pieces script ahead bytes done kept → ops bytes ≡ op ∷ ops more → bytes ≡ op ++ more → is_among pieces op ≡ true → next ≡ more → finished ≡ done ++ take kept ahead → Goes pieces script next more finished 0
  goes-taken next finished g e w h is_next is_finished = record {
    shorter = let cut = ap length (g.after ∙ w) in let same = ap length is_next in omega (arith, g.shorter, g.inside, length-append op more, length-drop kept ahead);
    inside = omega arith;
    after = is_next;
    parts = ap (λ t. t ++ without pieces more) is_finished
        ∙ append_assoc done (take kept ahead) (without pieces more) ∙ ap (λ t. done ++ (take kept ahead ++ t)) (sym (without-taken pieces bytes op more e w h)) ∙ g.parts;
  }

  -- an opcode stays
  pub goes-kept : Goes pieces script ahead bytes done kept → ops bytes ≡ op ∷ ops more → bytes ≡ op ++ more → is_among pieces op ≡ false → Goes pieces script ahead more done (kept + length op)
  goes-kept g e w h =
      let front : take (length op) (drop kept ahead) ≡ op = ap (take (length op)) (g.after ∙ w) ∙ take-append_seam op more in
      let back : drop (length op) (drop kept ahead) ≡ more = ap (drop (length op)) (g.after ∙ w) ∙ drop-append_seam op more in
      let long = ap length (g.after ∙ w) in
      record {
        shorter = g.shorter;
        inside = omega (arith, g.inside, length-append op more, length-drop kept ahead);
        after = drop_more-front kept (length op) ahead g.inside ∙ back;
        parts = ap (λ t. done ++ (t ++ without pieces more)) (take_more-front kept (length op) ahead g.inside ∙ ap (λ t. take kept ahead ++ t) front)
            ∙ ap (λ t. done ++ t) (append_assoc (take kept ahead) op (without pieces more) ∙ ap (λ t. take kept ahead ++ t) (sym (without-kept pieces bytes op more e w h))) ∙ g.parts;
      }

-- none is left: all that is ahead stays
pub goes-end : (pieces : List (List ℕ)) (script ahead bytes done : List ℕ) (kept : ℕ) → Goes pieces script ahead bytes done kept → ops bytes ≡ [] → done ++ ahead ≡ without pieces script
goes-end pieces script ahead bytes done kept g e =
    ap (λ t. done ++ t) (sym (take-append-drop kept ahead) ∙ ap (λ t. take kept ahead ++ t) (g.after ∙ sym (without-end pieces bytes e))) ∙ g.parts

-- one part more
pub concat-push : {A : Type 0} (f : A → List ℕ) (parts : List A) (part : A) → concat (map f (parts ++ part ∷ [])) ≡ concat (map f parts) ++ f part
concat-push f parts part =
    ap concat (map-append f parts (part ∷ [])) ∙ concat-append (map f parts) (f part ∷ []) ∙ ap (λ t. concat (map f parts) ++ t) (append-nil (f part))
