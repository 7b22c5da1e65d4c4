-- Connections that were answered, by what is known of them before and after.
use Rattle.index.proofs.Words.{◌≡◌, ℕ, List, [], Option, None, Result, Ok, Err, ap, inl, inr, length, refl, subst, subst₂, sym, arith}
use Rattle.index.proofs.Words.{Tables, Came, Closed, Exchange, KnownList, KnownReplies, ServeEnd, Rules, by_history, by_tables, StandsFor}
use Rattle.index.proofs.Words.{End, end_of_serving, AnswerConnections, AreAmong, DoneExchanges, IsNoListening, IsServingEnd, Works}
use Rattle.index.proofs.Words.{MayLeave}
use Rattle.index_cli.specs.Connections.{AreOn, IsRest}
use Rattle.index_cli.specs.declared.end.ServeEnd.TheVariants as serve_end
use Rattle.index_cli.specs.DeskAnswers.{DeskAnswersConnections}
use Rattle.index_cli.specs.Serving.{IsCount}
use Rattle.index_cli.specs.Went.{Went}
use Rattle.index_http.specs.Steps.{DeskStep, at_desk}
use Rattle.index_rules.specs.declared.books.Books.{Ghosts}
use Rattle.index.specs.declared.end.End.TheVariants as end
use Rattle.index.specs.Tasks.{IsUpTo}

-- from what gives connections to what is known of them
pub among : {C : Type 0} (coming : C → KnownList) (replies : C → KnownReplies) (old new : C) (a a' : KnownList) (r r' : KnownReplies)
    → coming old ≡ a → a' ≡ coming new → replies old ≡ r → r' ≡ replies new
    → (exchanges : List Exchange) → AreOn coming replies old new exchanges → AreAmong a a' r r' exchanges
among coming replies old new a a' r r' come left had have exchanges it = record {
  later = it.later;
  came = subst (λ x. Came x it.later exchanges) come it.came;
  rest = subst (λ x. IsRest it.later x) (sym left) it.rest;
  closed = subst₂ (λ x y. Closed x y exchanges) had (sym have) it.closed;
}

up_to : (requests : ℕ) (ended : Result (Unit {0}) ServeEnd) (count : ℕ) → IsCount requests ended count
    → IsUpTo requests (end_of_serving ended) count
up_to requests (Ok done) count is = is
up_to requests (Err early) count is = omega (arith, is)

-- a serve ended by the clock only if its connections did
by_clock : (at : Option ℕ) (ended : Result (Unit {0}) ServeEnd) → (ended ≡ Err serve_end.Clock → at ≡ None)
    → end_of_serving ended ≡ Err (end.Connections serve_end.Clock) → at ≡ None
by_clock at (Ok done) clock is = let no : Ok 0 ≡ Err (end.Connections serve_end.Clock) = is in absurd (cc no)
by_clock at (Err early) clock is =
    let both : Err (end.Connections early) ≡ Err (end.Connections serve_end.Clock) = is in
    let same : early ≡ serve_end.Clock = cc in
    clock (ap (λ (it : ServeEnd). Err it) same)

-- connections that a desk answered
pub serves_work : {S : Type 0} (desk : DeskStep S) (Are : List Exchange → Type 0) (a a' : KnownList) (r r' : KnownReplies)
    → ((exchanges : List Exchange) → Are exchanges → AreAmong a a' r r' exchanges)
    → (at : Option ℕ) (requests : ℕ) (ended : Result (Unit {0}) ServeEnd) → (ended ≡ Err serve_end.Clock → at ≡ None)
    → DeskAnswersConnections desk Are at (IsCount requests ended)
    → Works desk (AnswerConnections at requests a a' r r') (end_of_serving ended)
serves_work desk Are a a' r r' are at requests ended clock it = record {
  done = DoneExchanges it.exchanges;
  ends = λ honest clean. record {
    ends = inr (ended, refl);
    clock = by_clock at ended clock;
    exchanges = it.exchanges;
    are = are it.exchanges it.are;
    is = refl;
    counted = up_to requests ended (length it.exchanges) it.counted;
    are_given = it.are_given;
  };
  answered = it.answered;
  went = it.went;
}

none_went : {S : Type 0} (rules : Rules S) (s : S) (MayLeave : Tables → Type 0) → ((T : Tables) → MayLeave T → rules.Shows s T)
    → Went rules [] s MayLeave
none_went rules s MayLeave shows = record {
  later = [];
  earlier = [];
  all = refl;
  reached = s;
  answered = refl;
  shut = inl refl;
  crash = λ T may. inl (shows T may);
}

-- no connection was answered
module _ (a a' : KnownList) (r r' : KnownReplies) (kept : (a' ≡ a) × (r' ≡ r)) (early : End) (fault : IsNoListening early) where
  none_are : AreAmong a a' r r' []
  none_are = record { later = a'; came = kept.0; rest = inl refl; closed = kept.1 }

  none_end : (requests : ℕ) → IsServingEnd (Err early) × IsUpTo requests (Err early) 0
  none_end requests = (
    inl fault,
    elim fault as (λ _. IsUpTo requests (Err early) 0) [
      | inl (cause, of, listen) ↦ subst (λ e. IsUpTo requests (Err e) 0) (sym listen) refl
      | inr told ↦ subst (λ e. IsUpTo requests (Err e) 0) (sym told) refl
    ],
  )

  none_by_clock : (at : Option ℕ) (result : Result ℕ End) → result ≡ Err early → result ≡ Err (end.Connections serve_end.Clock) → at ≡ None
  none_by_clock at result is clock = elim fault as (λ _. at ≡ None) [
    | inl (cause, of, listen) ↦ let no : end.Listen cause ≡ end.Connections serve_end.Clock = cc in absurd (cc no)
    | inr told ↦ let no : end.WriteFault ≡ end.Connections serve_end.Clock = cc in absurd (cc no)
  ]

  -- a desk at which nothing was done
  pub none_works : {S : Type 0} (books : Ghosts S) (now : S) → ((s : S) → books.IsHonest s → (T : Tables) → books.may_leave s T
      → T ≡ books.tables s)
      → (at : Option ℕ) (requests : ℕ) → Works (at_desk books now now) (AnswerConnections at requests a a' r r') (Err early)
  none_works books now settled at requests = record {
    done = DoneExchanges [];
    ends = λ honest clean. record {
      ends = (none_end requests).0;
      clock = none_by_clock at (Err early) refl;
      exchanges = [];
      are = none_are;
      is = refl;
      counted = (none_end requests).1;
      are_given = tt;
    };
    answered = λ honest. record {
      tables = λ one. record { later = books.tables now; is = refl; shows = refl };
      history = λ h legal stands. record { later = h; is = refl; shows = (legal, stands) };
    };
    went = λ honest clean. record {
      tables = λ one. none_went by_tables (books.tables now) (books.may_leave now) (λ T may. settled now honest T may);
      history = λ h legal stands. none_went by_history h (books.may_leave now)
          (λ T may. (legal, subst (λ T. StandsFor T h) (sym (settled now honest T may)) stands));
    };
  }
