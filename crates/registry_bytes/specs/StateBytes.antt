-- The bytes of states, in the parts that they are written in. (What a state's layout is, is said in registry_state: States.)
use Rattle.std.specs.Prelude.{ℕ, List, ◌++◌}
use Rattle.laws.specs.Number.{digits}
use Rattle.cesr_sn.specs.declared.Sn.{Sn}
use Rattle.cesr.specs.declared.Matter.{Matter}
use Rattle.cesr.specs.declared.BasicPrefix.{BasicPrefix}
use Rattle.codec_laws.specs.Layout.{section_bytes, prefix_bytes, byte_bytes}
use Rattle.registry_head.specs.HeadBytes.{head_bytes}

-- what stands behind the head of a registry state
unfoldable pub rest_bytes : ℕ → List ℕ → List BasicPrefix → List ℕ
rest_bytes toad configs backers = digits 4 toad ++ (section_bytes byte_bytes configs ++ section_bytes prefix_bytes backers)

-- a registry state before its backers
unfoldable pub front_bytes : Matter → Matter → Sn → Matter → ℕ → List ℕ → List ℕ
front_bytes a b n d toad configs = head_bytes a b n d ++ (digits 4 toad ++ section_bytes byte_bytes configs)

-- a registry state
unfoldable pub state_bytes : Matter → Matter → Sn → Matter → ℕ → List ℕ → List BasicPrefix → List ℕ
state_bytes a b n d toad configs backers = head_bytes a b n d ++ rest_bytes toad configs backers
