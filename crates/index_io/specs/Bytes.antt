-- What a read takes and a write adds, if the bytes are known.
use Rattle.std.specs.Prelude.{◌≡◌, ℕ, ◌<◌, ◌≤◌, List, [], ◌∷◌, length, take, Option, Some, None}
use Rattle.std.specs.Prelude.{Result, IfOk, IfErr, OnOk, ⊤}
use Rattle.std.specs.Borrow.{Bor}
use Rattle.std.specs.Io.KnownBytes.{Appends, Consumes, IsAtEnd}
use Rattle.std.specs.List.{flat_map}

-- the input agrees with the bytes that a reader says are left
abbrev pub IsInput : Option (List ℕ) → List ℕ → Type 0
IsInput None input = ⊤
IsInput (Some bytes) input = input ≡ bytes

-- a byte was taken, or the input was at its end
abbrev pub TakesByte : Option ℕ → Option (List ℕ) → Option (List ℕ) → Type 0
TakesByte None old new = Consumes old new [] × IsAtEnd new
TakesByte (Some byte) old new = Consumes old new (byte ∷ [])

-- a prefix of the bytes went out, at least one of them
pub record AppendsFront (bytes : List ℕ) (old new : Option (List ℕ)) (count : ℕ) : Type 0 where
  pub some : 0 < count
  pub within : count ≤ length bytes
  pub sent : Appends old new (take count bytes)

-- a write that succeeds returns the length of the prefix of the bytes that went out
abbrev pub WritesFront : {S E : Type 0} → (S → Option (List ℕ)) → S → S → List ℕ
    → Result ℕ E → Type 0
WritesFront contents old new bytes result =
    IfOk result (AppendsFront bytes (contents old) (contents new))

-- if the write succeeds, all of the bytes went out
abbrev pub WritesAll : {S A E : Type 0} → (S → Option (List ℕ)) → S → S → List ℕ
    → Result A E → Type 0
WritesAll contents old new bytes result = OnOk result (Appends (contents old) (contents new) bytes)

-- an error has the number of bytes that went out, and not all did
abbrev pub WritesUpTo : {S A : Type 0} → (S → Option (List ℕ)) → S → S → List ℕ
    → Result A ℕ → Type 0
WritesUpTo contents old new bytes result =
    IfErr result
    (λ count. (count < length bytes) × Appends (contents old) (contents new) (take count bytes))

-- the bytes of pieces, one piece after another
abbrev pub joined : List (Bor (List ℕ)) → List ℕ
joined pieces = flat_map (λ piece. piece.now) pieces
