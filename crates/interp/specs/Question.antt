-- What is asked of scripts: may this input of this transaction spend an output with this script, under these rules?
use Rattle.std.specs.Prelude.{ℕ, List}
use Rattle.txn.specs.Tx.{Tx}
use Rattle.interp.specs.declared.flags.Flags.{Flags}
use Rattle.interp.specs.declared.job.Job.{Job}

pub record Question : Type 0 where
  pub tx : Tx
  pub input : ℕ
  pub spent : List ℕ
  pub flags : Flags

abbrev pub question : Tx → ℕ → List ℕ → Flags → Question
question tx input spent flags = record { tx = tx; input = input; spent = spent; flags = flags }

abbrev pub question_of : Job → Question
question_of job = question job.tx.now job.input job.spent.now job.flags
