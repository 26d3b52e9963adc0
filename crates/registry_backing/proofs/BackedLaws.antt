-- 24, 26 and 27 of an authority, made one after the other: the first that refuses is the answer, and the receipts are the last.
--     repeated, unfit, receipted
use Prim.Native.Nat.{ℕ}
use mathlib.Core.Path.{◌≡◌, sym}
use mathlib.Core.List.{List}
use mathlib.Core.Bool.{true, false}
use lib.ListN.{length}
use Rattle.cesr.specs.declared.BasicPrefix.{BasicPrefix}
use Rattle.events.specs.declared.Broken.{Broken}
use Rattle.events.specs.Members.{check_members}
use Rattle.events_toad.specs.Toads.{exact_ok}
use Rattle.registry_verification.specs.declared.Signature.{Signature}
use Rattle.std.proofs.Common.{Ok, Err}
use Rattle.registry_error.specs.declared.RegistryRejection.TheVariants.{BackerThreshold, BackerSet}
use Rattle.registry_answer.specs.Answers.{accept_if, first_of}
use Rattle.registry_answer.proofs.AnswerLaws.{or-nothing}
use Rattle.registry_backing.specs.Backings.{enough_receipts, backed_by}

module _ (toad : ℕ) (l : List BasicPrefix) (s : List Signature) where
  pub repeated : (b : Broken) → Err b ≡ check_members l → Err (BackerSet b.rule b.at) ≡ backed_by toad l s
  unfolding backed_by first_of
  repeated b e = rw (← e)

  pub unfit : Ok tt ≡ check_members l → exact_ok toad (length l) ≡ false → Err BackerThreshold ≡ backed_by toad l s
  unfolding backed_by first_of accept_if
  unfit e h = rw (← e, h)

  pub receipted : Ok tt ≡ check_members l → exact_ok toad (length l) ≡ true → enough_receipts toad (length l) s ≡ backed_by toad l s
  unfolding backed_by first_of accept_if
  receipted e h = rw (← e, h) (sym (or-nothing (enough_receipts toad (length l) s)))
