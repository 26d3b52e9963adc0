use Rattle.registry_error.proofs.TerminalLaws.{terminal-otherwise}
use Rattle.registry_error.proofs.RegistryRejection.disposition.Goals as goal

pub returns-in-MissingRegistry : goal.returns-in-MissingRegistry
returns-in-MissingRegistry c = rw c.in-MissingRegistry.is

pub returns-in-DuplicateInception : goal.returns-in-DuplicateInception
returns-in-DuplicateInception c = rw c.in-DuplicateInception.is

pub returns-in-AlreadyIssued : goal.returns-in-AlreadyIssued
returns-in-AlreadyIssued c = rw c.in-AlreadyIssued.is

pub returns-in-MissingCredentialState : goal.returns-in-MissingCredentialState
returns-in-MissingCredentialState c = rw c.in-MissingCredentialState.is

pub returns-in-OutOfOrder : goal.returns-in-OutOfOrder
returns-in-OutOfOrder c = rw c.in-OutOfOrder.is c.out_of_order.ensures

pub returns-in-MissingIssuer : goal.returns-in-MissingIssuer
returns-in-MissingIssuer c = rw c.in-MissingIssuer.is

pub returns-in-MissingAnchor : goal.returns-in-MissingAnchor
returns-in-MissingAnchor c = rw c.in-MissingAnchor.is

pub returns-in-UnresolvedAnchor : goal.returns-in-UnresolvedAnchor
returns-in-UnresolvedAnchor c = rw c.in-UnresolvedAnchor.is

pub returns-in-MissingBackerReceipts : goal.returns-in-MissingBackerReceipts
returns-in-MissingBackerReceipts c = rw c.in-MissingBackerReceipts.is

pub returns-in_default : goal.returns-in_default
returns-in_default c =
    let n = c.in_default in
    terminal-otherwise c.args.self n.not-MissingRegistry n.not-DuplicateInception n.not-AlreadyIssued n.not-MissingCredentialState n.not-OutOfOrder n.not-MissingIssuer n.not-MissingAnchor n.not-UnresolvedAnchor n.not-MissingBackerReceipts
