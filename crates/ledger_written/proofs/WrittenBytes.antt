-- The parts of what writing an image comes to, from the code's answer and the buffer.
--     bytes-held    the bytes are the buffer's
--     size_or       the size is the answer's, or 0 after a refusal
use Rattle.std.specs.Prelude.{Result, Ok, Err}
use Rattle.std.specs.Result.{result_unwrap_or}
use Prim.Native.Nat.{ℕ}
use mathlib.Core.Path.{◌≡◌, refl}
use mathlib.Core.List.{List}
use Rattle.ledger_written.specs.declared.WriteError.{WriteError}
use Rattle.ledger_written.specs.Writes.{view_written}

pub bytes-held : (r : Result ℕ WriteError) (out : List ℕ) → out ≡ (view_written r out).bytes
bytes-held (Ok n) out = refl
bytes-held (Err e) out = refl

pub size_or : (r : Result ℕ WriteError) (out : List ℕ) → result_unwrap_or r 0 ≡ (view_written r out).size
size_or (Ok n) out = refl
size_or (Err e) out = refl
