-- What a client gets for a file name is what the history has of it.
use Rattle.index.proofs.Words.{◌≡◌, Some, itself, History, IsFrontOf, IsLegal, Bytes}
use Rattle.index_cli.proofs.FilesServed.{by_reply, legal_front}
use Rattle.index_rules.specs.StandsFor.{body_after}
use Rattle.index_rules.proofs.ServeLemmas.{serves_bound}
use Rattle.index.specs.GoesOn.{BindServed, ServesFile}

pub served : (h : History) → IsLegal h → (file bytes : Bytes) → ServesFile h file bytes → body_after h file ≡ Some bytes
served h legal file bytes it = by_reply h legal file bytes _ it.replies.0 it.replies.1 it.replies.2.0

-- what was served is bound
pub served_bound : (h : History) → IsLegal h → (one : History) → IsFrontOf one h → BindServed one h
served_bound h legal one front file first second at_one at_last =
    serves_bound h legal one h front (itself h) file first second
    (served one (legal_front one h front legal) file first at_one)
    (served h legal file second at_last)
