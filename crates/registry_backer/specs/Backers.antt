-- The authority of a bis or brv (docs/RULES.md, "Evidence").
use Rattle.std.specs.Prelude.{List, [], ◌∷◌, Bool, true, false, ◌&&◌, eqb}
use Rattle.laws.specs.Words.{same_list}
use Rattle.cesr_sn.specs.Numbers.{value}
use Rattle.cesr.specs.Primitives.{eq_matter, eq_said}
use Rattle.cesr_sn.specs.declared.Sn.{Sn}
use Rattle.cesr.specs.declared.Said.{Said}
use Rattle.events_seal.specs.Identifiers.{matter_of}
use Rattle.events_tel.specs.Configs.{no_backers}
use Rattle.events_seal.specs.declared.Seal.{Seal}
use Rattle.events_seal.specs.declared.Seal.TheVariants.{Digest, Root, Source, Event, Last, Back, Kind, Opaque}
use Rattle.registry_wire.specs.States.{Registry}
use Rattle.registry_signatures.specs.declared.Signature.{Signature}
use Rattle.registry_wire.specs.Attempts.{Evidence}
use Rattle.registry_wire.specs.Attempts.Evidence.{missing, issuer, backer, backer_at}
use Rattle.registry_error.specs.declared.RegistryRejection.TheVariants.{InconsistentRegistry, InconsistentIssuer, InconsistentManagement, UnresolvedAnchor}
use Rattle.registry_error.specs.Errors.{Answer}
use Rattle.std.specs.Prelude.{Ok, Err}
use Rattle.registry_answer.specs.Answers.{accept_if, or_else, first_of}
use Rattle.registry_backing.specs.Backings.{backed_by}

-- a registry is backerless by its trait NoBackers, never by its list
abbrev pub is_backerless : Registry → Bool
is_backerless g = no_backers g.configs

-- whether two states are of one registry: id, issuer and config, which are equal only as lists
unfoldable pub same_registry : Registry → Registry → Bool
same_registry g h = eq_said g.id h.id && (eq_matter g.issuer h.issuer && same_list g.configs h.configs)

-- whether a state stands at this sn with this event
unfoldable pub stands_at : Registry → Sn → Said → Bool
stands_at g s d = eqb (value g.sn) (value s) && eq_said g.latest d

-- 22, 23 or 19 by the evidence: the state that the seal's s and d name is BackerAt's, or the registry's present head
abbrev pub resolved_by : Registry → Sn → Said → Evidence → Answer
resolved_by g s d missing = Err (UnresolvedAnchor s)
resolved_by g s d (issuer prefix anchor) = Err InconsistentIssuer
resolved_by g s d backer = accept_if (stands_at g s d) (UnresolvedAnchor s)
resolved_by g s d (backer_at h) = accept_if (same_registry h g && stands_at h s d) InconsistentManagement

-- whether a seal names the registry
abbrev pub names_registry : Seal → Said → Bool
names_registry Digest id = false
names_registry Root id = false
names_registry Source id = false
names_registry (Event i s d) id = eq_matter (matter_of i) id.0
names_registry Last id = false
names_registry Back id = false
names_registry Kind id = false
names_registry Opaque id = false

-- 22: the seal is of kind 4; 10: its i is the registry's id; then by the evidence
abbrev pub resolved : Registry → Seal → Evidence → Answer
resolved g Digest e = Err InconsistentManagement
resolved g Root e = Err InconsistentManagement
resolved g Source e = Err InconsistentManagement
resolved g (Event i s d) e = or_else (accept_if (eq_matter (matter_of i) g.id.0) InconsistentRegistry) (resolved_by g s d e)
resolved g Last e = Err InconsistentManagement
resolved g Back e = Err InconsistentManagement
resolved g Kind e = Err InconsistentManagement
resolved g Opaque e = Err InconsistentManagement

-- the state whose backers and toad are used
abbrev pub authority : Registry → Evidence → Registry
authority g missing = g
authority g (issuer prefix anchor) = g
authority g backer = g
authority g (backer_at h) = h

-- 22 to 27 of bis and brv
unfoldable pub authenticate_backer : Registry → Seal → Evidence → List Signature → Answer
authenticate_backer g seal e l = first_of (resolved g seal e ∷ backed_by (authority g e).toad (authority g e).backers l ∷ [])

-- The same in two parts, since the code has the registry's own backers only where a caller has their list.

-- 24, 26, 27 of the state that BackerAt carries
abbrev pub carried_backed : Evidence → List Signature → Answer
carried_backed missing l = Ok tt
carried_backed (issuer prefix anchor) l = Ok tt
carried_backed backer l = Ok tt
carried_backed (backer_at h) l = backed_by h.toad h.backers l

-- 22, 23 or 19, then 24, 26, 27 of the state that BackerAt carries: of an event seal that names the registry
abbrev pub resolved_at : Registry → Sn → Said → Evidence → List Signature → Answer
resolved_at g s d e l = or_else (resolved_by g s d e) (carried_backed e l)

-- 22 to 27, but for the registry's own backers
unfoldable pub resolved_backer : Registry → Seal → Evidence → List Signature → Answer
resolved_backer g seal e l = first_of (resolved g seal e ∷ carried_backed e l ∷ [])

-- the evidence that leaves the registry's own backers to be asked about: the first two are refused, and the last has backers of its own
abbrev pub asks_own : Evidence → Bool
asks_own missing = false
asks_own (issuer prefix anchor) = false
asks_own backer = true
asks_own (backer_at h) = false
