-- What a message asks, if what it asks for comes to something else.
use Rattle.index_http.proofs.Words.{ℕ, inl, inr, Option, Some, None, Result, Answer, Call, Bytes, IoEnd}
use Rattle.index_http.specs.Asks.{Asks, AsksFor}
use Rattle.index_http.proofs.EndLemmas.{ends_map}

module _ (L L' : Type 0) (K K' : Call → Answer → Type 0) (before after : Option Bytes) (result : Result (Unit {0}) IoEnd)
    (f : L → L') (k : (call : Call) (answer : Answer) → K call answer → K' call answer) where
  asks_for_map : (call : Option Call) (text_of : Answer → Bytes) → AsksFor call text_of L K before after result
      → AsksFor call text_of L' K' before after result
  asks_for_map None text_of asks = f asks
  asks_for_map (Some call) text_of asks = ends_map _ _ _ _ before after result (λ text it. (it.0, it.1, k call it.0 it.2)) f asks

  pub asks_map : (at : ℕ) (given : Option Bytes) → Asks at given L K before after result → Asks at given L' K' before after result
  asks_map at given (inl it) = inl (f it.0, it.1, it.2)
  asks_map at given (inr it) = inr (it.0, it.1, it.2, it.3, asks_for_map _ _ it.4)
