-- The bytes of a credential state. (What its layout is, is said in registry_state_credential: CredentialStates.)
use Rattle.std.specs.Prelude.{ℕ, List, ◌++◌}
use Rattle.cesr_sn.specs.Numbers.{sn_bytes}
use Rattle.cesr.specs.Primitives.{matter_bytes}
use Rattle.cesr_sn.specs.declared.Sn.{Sn}
use Rattle.cesr.specs.declared.Matter.{Matter}

-- what a credential state is, and what a registry state begins with: two primitives, a number, a primitive
unfoldable pub head_bytes : Matter → Matter → Sn → Matter → List ℕ
head_bytes a b n d = matter_bytes a ++ (matter_bytes b ++ (sn_bytes n ++ matter_bytes d))
