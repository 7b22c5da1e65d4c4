-- The reply to a request is what was shown of it, or the answer to its call.
use Rattle.index_http.proofs.Words.{◌≡◌, ℕ, true, refl, Option, Result, Bytes, Tables, by_tables, HttpRequest, is_head, is_reading, Message}
use Rattle.index_http.proofs.Words.{Whole, ReplyEnds, MessageGetsText, ShowsResource, LookEnds, IoEnd}
use Rattle.index_http.proofs.EndLemmas.{ends_map}

-- the reply to a message, and tables after it
abbrev pub IsReplyTo : Type 0 → ℕ → Tables → (Tables → Type 0) → Message → Bytes → Type 0
IsReplyTo Cause at T IsLater message text = (later : Tables) × MessageGetsText by_tables Cause at T message text later × IsLater later

module _ (Cause : Type 0) (at : ℕ) (T : Tables) (IsLater : Tables → Type 0) (request : HttpRequest) (body : Bytes)
    (before after : Option Bytes) (result : Result (Unit {0}) IoEnd) where
  pub look_ends : is_reading request.method ≡ true → IsLater T
      → LookEnds (is_head request.method) (ShowsResource by_tables T request.fields request.resource) Cause before after result
      → ReplyEnds (IsReplyTo Cause at T IsLater (Whole request body)) (IsLater T) before after result
  look_ends reads same ends =
      ends_map _ _ _ _ before after result (λ text shown. (T, (shown.0, shown.1, rw reads (shown.2, refl)), same)) (λ _. same) ends
