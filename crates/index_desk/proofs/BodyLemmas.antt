-- In sound tables the bytes of a file are those that it is bound to.
use Rattle.index_desk.proofs.Words.{◌≡◌, refl, Option, Some, None, get, FileRecord, Bytes, IsSound, Tables, AreBytesOf}

pub bytes-bound : (T : Tables) → IsSound T → (file : Bytes) → AreBytesOf T file (get T.bodies file)
bytes-bound T sound file = by (get T.bodies file) (get T.files file) refl refl
  where
    by : (body : Option Bytes) → (known : Option FileRecord) → get T.bodies file ≡ body → get T.files file ≡ known → AreBytesOf T file body
    by None known is told = tt
    by (Some body) (Some known) is told = (known, told, sound.bytes file body known is told)
    by (Some body) None is told = absurd (let has = sound.bodies file in let no = rw (is, told) at has in cc)
