use Rattle.registry_error.proofs.RegistryRejection.number.Goals as goal

pub returns-in-Malformed : goal.returns-in-Malformed
returns-in-Malformed c = rw c.in-Malformed.is

pub returns-in-MissingRegistry : goal.returns-in-MissingRegistry
returns-in-MissingRegistry c = rw c.in-MissingRegistry.is

pub returns-in-DuplicateInception : goal.returns-in-DuplicateInception
returns-in-DuplicateInception c = rw c.in-DuplicateInception.is

pub returns-in-AlreadyIssued : goal.returns-in-AlreadyIssued
returns-in-AlreadyIssued c = rw c.in-AlreadyIssued.is

pub returns-in-MissingCredentialState : goal.returns-in-MissingCredentialState
returns-in-MissingCredentialState c = rw c.in-MissingCredentialState.is

pub returns-in-NotRegistryInception : goal.returns-in-NotRegistryInception
returns-in-NotRegistryInception c = rw c.in-NotRegistryInception.is

pub returns-in-NotManagementRotation : goal.returns-in-NotManagementRotation
returns-in-NotManagementRotation c = rw c.in-NotManagementRotation.is

pub returns-in-NotCredentialInception : goal.returns-in-NotCredentialInception
returns-in-NotCredentialInception c = rw c.in-NotCredentialInception.is

pub returns-in-NotCredentialTransition : goal.returns-in-NotCredentialTransition
returns-in-NotCredentialTransition c = rw c.in-NotCredentialTransition.is

pub returns-in-InconsistentRegistry : goal.returns-in-InconsistentRegistry
returns-in-InconsistentRegistry c = rw c.in-InconsistentRegistry.is

pub returns-in-NoBackersWithBackers : goal.returns-in-NoBackersWithBackers
returns-in-NoBackersWithBackers c = rw c.in-NoBackersWithBackers.is

pub returns-in-SimpleEventOnBackerRegistry : goal.returns-in-SimpleEventOnBackerRegistry
returns-in-SimpleEventOnBackerRegistry c = rw c.in-SimpleEventOnBackerRegistry.is

pub returns-in-BackedEventOnBackerlessRegistry : goal.returns-in-BackedEventOnBackerlessRegistry
returns-in-BackedEventOnBackerlessRegistry c = rw c.in-BackedEventOnBackerlessRegistry.is

pub returns-in-RotationOnBackerlessRegistry : goal.returns-in-RotationOnBackerlessRegistry
returns-in-RotationOnBackerlessRegistry c = rw c.in-RotationOnBackerlessRegistry.is

pub returns-in-SequenceNumberOverflow : goal.returns-in-SequenceNumberOverflow
returns-in-SequenceNumberOverflow c = rw c.in-SequenceNumberOverflow.is

pub returns-in-OutOfOrder : goal.returns-in-OutOfOrder
returns-in-OutOfOrder c = rw c.in-OutOfOrder.is

pub returns-in-PriorDigestMismatch : goal.returns-in-PriorDigestMismatch
returns-in-PriorDigestMismatch c = rw c.in-PriorDigestMismatch.is

pub returns-in-MissingIssuer : goal.returns-in-MissingIssuer
returns-in-MissingIssuer c = rw c.in-MissingIssuer.is

pub returns-in-InconsistentIssuer : goal.returns-in-InconsistentIssuer
returns-in-InconsistentIssuer c = rw c.in-InconsistentIssuer.is

pub returns-in-MissingAnchor : goal.returns-in-MissingAnchor
returns-in-MissingAnchor c = rw c.in-MissingAnchor.is

pub returns-in-InconsistentAnchor : goal.returns-in-InconsistentAnchor
returns-in-InconsistentAnchor c = rw c.in-InconsistentAnchor.is

pub returns-in-InconsistentManagement : goal.returns-in-InconsistentManagement
returns-in-InconsistentManagement c = rw c.in-InconsistentManagement.is

pub returns-in-UnresolvedAnchor : goal.returns-in-UnresolvedAnchor
returns-in-UnresolvedAnchor c = rw c.in-UnresolvedAnchor.is

pub returns-in-BackerSet : goal.returns-in-BackerSet
returns-in-BackerSet c = rw c.in-BackerSet.is

pub returns-in-TooManyBackers : goal.returns-in-TooManyBackers
returns-in-TooManyBackers c = rw c.in-TooManyBackers.is

pub returns-in-BackerThreshold : goal.returns-in-BackerThreshold
returns-in-BackerThreshold c = rw c.in-BackerThreshold.is

pub returns-in-MissingBackerReceipts : goal.returns-in-MissingBackerReceipts
returns-in-MissingBackerReceipts c = rw c.in-MissingBackerReceipts.is

pub returns-in-InconsistentCredential : goal.returns-in-InconsistentCredential
returns-in-InconsistentCredential c = rw c.in-InconsistentCredential.is

pub returns-in-NoRoom : goal.returns-in-NoRoom
returns-in-NoRoom c = rw c.in-NoRoom.is

pub returns-in-ShortBuffer : goal.returns-in-ShortBuffer
returns-in-ShortBuffer c = rw c.in-ShortBuffer.is
