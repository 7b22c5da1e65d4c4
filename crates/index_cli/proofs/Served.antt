-- Connections that were answered, and what came and went on them.
use Rattle.index_cli.proofs.Words.{◌≡◌, ℕ, List, [], ◌∷◌, Option, Some, None, Err, inl, refl, subst, sym, IfSome, Ghosts, OutOfMemory}
use Rattle.index_cli.proofs.Words.{leaves_none, AreOn, Exchange, no_faults, at_desk, DeskAnswersExchange}
use Rattle.std.specs.Prelude.{unwrap_or}
use Rattle.index_cli.specs.Connections.{Came, Closed, IsRest, IsUnsent, KnownList, KnownReplies, Loses}
use Rattle.index_cli.specs.Steps.{on_connections}
use Rattle.index_cli.specs.Serving.{NextConnectionIsAnswered}

-- ---- connections so far

module _ {C : Type 0} (coming : C → KnownList) (replies : C → KnownReplies) where
  -- these came and were closed since it was as it was first
  abbrev pub AreSoFar : (first now : C) → List Exchange → Type 0
  AreSoFar first now exchanges = Came (coming first) (coming now) exchanges × Closed (replies first) (replies now) exchanges

  -- no more was answered
  pub are_on : (first now new : C) → IsRest (coming now) (coming new) → replies new ≡ replies now
      → (exchanges : List Exchange) → AreSoFar first now exchanges → AreOn coming replies first new exchanges
  are_on first now new rest same exchanges it =
      record {
        later = coming now;
        came = it.0;
        rest = rest;
        closed = subst (λ (r : KnownReplies). Closed (replies first) r exchanges) (sym same) it.1;
      }

  -- one more was
  pub are_push : {S : Type 0} (g : Ghosts S) (old new : S) (first now after : C) (given : Option ℕ)
      → (next : NextConnectionIsAnswered given (at_desk g old new) (on_connections coming replies now after))
      → (earlier : List Exchange) → AreSoFar first now earlier → AreSoFar first after (next.exchange ∷ earlier)
  are_push g old new first now after given next earlier it =
      ((coming now, it.0, next.came), (replies now, it.1, next.unsent, next.closed))

-- ---- one that was closed at once

its_moment : (given : Option ℕ) → IfSome given (λ it. unwrap_or given 0 ≡ it)
its_moment None = tt
its_moment (Some at) = refl

unasked : {S : Type 0} (g : Ghosts S) (s : S) (at : ℕ) (given : Option (List ℕ))
    → DeskAnswersExchange g s s (record { at = at; given = given; had = Some []; has = Some []; faults = no_faults })
unasked g s at given = record {
  tables = λ honest one. record { failures = 0; later_failures = 0; ended = Err OutOfMemory; ends = (refl, refl); cause = tt };
  history = λ honest h legal stands. record {
    later = h;
    is = record { failures = 0; later_failures = 0; ended = Err OutOfMemory; ends = (refl, refl); cause = tt };
    shows = (legal, stands);
  };
  lasts = λ honest clean one. inl (honest, refl);
  asks = record {
    ended = Err OutOfMemory;
    asks = inl (leaves_none g s, refl, refl);
    cause = tt;
  };
  keeps = record { one_bearer = λ _ it. it; sound = λ _ it. it; honest = λ it. it; clean = λ it. it };
}

-- nothing was sent
none_sent : (replies : KnownReplies) → IsUnsent replies (Some [])
none_sent None = refl
none_sent (Some replies) = refl

pub closed_at_once : {S C : Type 0} (g : Ghosts S) (s : S) (coming : C → KnownList) (replies : C
    → KnownReplies) (before after : C) (given : Option ℕ)
    → Loses (coming before) (coming after) (replies before) (replies after)
    → NextConnectionIsAnswered given (at_desk g s s) (on_connections coming replies before after)
closed_at_once g s coming replies before after given lost = record {
  exchange = record { at = unwrap_or given 0; given = lost.0; had = Some []; has = Some []; faults = no_faults };
  is_given = its_moment given;
  came = lost.1;
  unsent = none_sent (replies before);
  closed = lost.2;
  answers = unasked g s (unwrap_or given 0) lost.0;
}
