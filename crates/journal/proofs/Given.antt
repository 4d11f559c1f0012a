-- How far a reader of a blk file has come, and one record more.
use Rattle.std.proofs.Common.{◌≡◌, ℕ, ◌+◌, ◌-◌, ◌≤◌, List, [], ◌∷◌, ◌++◌, length, length-append, refl, sym, ap, ◌∙◌, subst, arith}
use Rattle.block.specs.declared.blk.Stage.TheVariants as stages
use Rattle.block.specs.declared.blk_fault.BlkFault.{BlkFault}
use Rattle.block.specs.Blk.{record_bytes, IsRecord, IsFault}
use Rattle.block.specs.Progress.{Progress}
use Rattle.block.specs.laws.Files.{Gave}
use Rattle.journal.specs.SavedRun.{IsRefused}

-- the reader gave these blocks of a file that begins at this place, and goes on behind them
pub record HasGiven (place : ℕ) (file : List ℕ) (blocks : List (List ℕ)) (now : Progress) : Type 0 where
  pub gave : Gave file blocks now.to_come
  pub reading : now.stage ≡ stages.Reading
  pub offset : now.offset + length now.to_come ≡ place + length file
  pub within : length now.to_come ≤ length file

pub gave_push : (file : List ℕ) (blocks : List (List ℕ)) (rest block after : List ℕ) → Gave file blocks rest
    → IsRecord block rest after → Gave file (blocks ++ block ∷ []) after
gave_push file [] rest block after same is = (after, subst (λ text. IsRecord block text after) (sym same) is, refl)
gave_push file (first ∷ blocks) rest block after gave is =
    (gave.0, gave.1, gave_push gave.0 blocks rest block after gave.2 is)

pub record_length : (block rest after : List ℕ) → IsRecord block rest after
    → length rest ≡ length (record_bytes block) + length after
record_length block rest after is = ap length is.1 ∙ length-append (record_bytes block) after

pub one_more : (place : ℕ) (file : List ℕ) (blocks : List (List ℕ)) (block : List ℕ) (old new : Progress)
    → HasGiven place file blocks old → IsRecord block old.to_come new.to_come
    → new.offset ≡ old.offset + length (record_bytes block) → new.stage ≡ stages.Reading
    → HasGiven place file (blocks ++ block ∷ []) new
one_more place file blocks block old new given is moved reading =
    let len = record_length block old.to_come new.to_come is in
    record {
      gave = gave_push file blocks old.to_come block new.to_come given.gave is;
      reading = reading;
      offset = omega (arith, given.offset, moved, len);
      within = omega (arith, given.within, len);
    }

pub refused_at : (place : ℕ) (file : List ℕ) (blocks : List (List ℕ)) (now : Progress) (fault : BlkFault)
    → HasGiven place file blocks now → IsFault now.offset now.to_come fault → IsRefused place file fault
refused_at place file blocks now fault given is =
    let at : now.offset ≡ place + (length file - length now.to_come) = omega (arith, given.offset, given.within) in
    (blocks, now.to_come, given.gave, subst (λ n. IsFault n now.to_come fault) at is)
