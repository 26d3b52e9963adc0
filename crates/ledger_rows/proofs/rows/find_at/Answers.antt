use Rattle.std.proofs.Common.{take, refl, ap, ◌∙◌}
use Rattle.std.proofs.lemmas.List.{map-id}
use Rattle.registry_state_credential.specs.CredentialStates.{no_credential}
use Rattle.ledger_step.specs.Pairs.{Pair, key_of}
use Rattle.ledger_step.specs.Tables.{place}
use Rattle.ledger_step.specs.Ledgers.{eq_pair}
use Rattle.ledger_step.proofs.PlaceSteps.{searched}
use Rattle.ledger_rows.specs.Rows.{find_at}
use Rattle.ledger_rows.proofs.rows.find_at.Goals as goal

pub returns : goal.returns
unfolding find_at
returns c =
    let a = c.args in
    let l = take a.count a.rows.now in
    let key : Pair = record { registry = a.registry; credential = a.credential } in
    c.unwrap_or.ensures
    ∙ rw (c.position.ensures, c.in_use-used.ensures) (searched key_of eq_pair no_credential (λ w. w) key l _ refl ∙ ap (place key_of eq_pair no_credential key) (map-id l))
