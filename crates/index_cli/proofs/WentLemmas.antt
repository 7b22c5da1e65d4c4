-- Connections that were answered, up to a fault that shut the store if one did, and what a crash leaves.
use Rattle.index_cli.proofs.Words.{◌≡◌, ◌≢◌, ◌∙◌, ◌⊎◌, ℕ, ◌+◌, true, inl, inr, refl, subst, sym, arith, List, [], ◌∷◌, ◌++◌, length, Option}
use Rattle.index_cli.proofs.Words.{IfSome, Answer, Accepted, Already, Refused, Fault, Ghosts, Call, HasOneBearer, History, IsLegal}
use Rattle.index_cli.proofs.Words.{StandsFor, Tables, CarriesOn-answer, sound_when_legal, StandsAfter, AnswerLeavesTables, HasCall}
use Rattle.index_cli.proofs.Words.{KeepsInvariants, LeavesTables, NeverFalls, by_history, by_tables, Takes, answers_fault, at_desk}
use Rattle.index_cli.proofs.Words.{Exchange, DeskAnswersConnections, AcceptsNothing, AsksOne, DeskAnswersExchange, ExchangeIsAnswered}
use Rattle.index_cli.proofs.Words.{ExchangesAreAnswered, BeginsByFailure, MayHaveMade, Went}
use Rattle.std.specs.List.{AllByRecursion}
use Rattle.index_http.specs.Exchanges.{IsFaultless}
use Rattle.index_http.specs.Steps.{StaysHonest}
use Rattle.index_http.proofs.Failures.{failure_map}
use Rattle.index_http.proofs.Histories.{reply_ends_by_history, faultless_after}
use Rattle.index_desk.proofs.LeavesLemmas.{never_falls}
use Rattle.index_cli.specs.Serving.{ExchangeShowsFailure}
use Rattle.index_cli.proofs.Calls.{asks_one_map}
use Rattle.index_cli.proofs.Choices.{AsksOne-choice}

-- ---- by a history for which the tables stood

pub one_history : (h : History) → IsLegal h → (T T' : Tables) → StandsFor T h → (exchange : Exchange)
    → ExchangeIsAnswered by_tables exchange T T' → StandsAfter by_history (ExchangeIsAnswered by_history exchange h) T'
one_history h legal T T' stands exchange one =
    let it = reply_ends_by_history _ exchange.at h legal T T' stands exchange.given exchange.had exchange.has one.ended one.ends in
    record {
      later = it.later;
      is = record { failures = one.failures; later_failures = one.later_failures; ended = one.ended; ends = it.is; cause = one.cause };
      shows = it.shows;
    }

pub each_history : (h : History) → IsLegal h → (T : Tables) → StandsFor T h → (exchanges : List Exchange) (T' : Tables)
    → ExchangesAreAnswered by_tables exchanges T T' → StandsAfter by_history (ExchangesAreAnswered by_history exchanges h) T'
each_history h legal T stands [] T' same = record { later = h; is = refl; shows = (legal, subst (λ x. StandsFor x h) (sym same) stands) }
each_history h legal T stands (exchange ∷ earlier) T' (between, each, one) =
    let before = each_history h legal T stands earlier between each in
    let it = one_history before.later before.shows.0 between T' before.shows.1 exchange one in
    record { later = it.later; is = (before.later, before.is, it.is); shows = it.shows }

fails_history : (h : History) → IsLegal h → (T : Tables) → StandsFor T h → (exchange : Exchange) → ExchangeShowsFailure by_tables exchange T
    → ExchangeShowsFailure by_history exchange h
fails_history h legal T stands exchange it =
    let one = one_history h legal T it.later stands exchange it.answers in
    record {
      later = one.later;
      answers = one.is;
      asked = it.asked;
      shows = failure_map _ (IsFaultless by_history exchange.at exchange.given h) exchange.had exchange.has
          (faultless_after exchange.at h legal T stands exchange.given) it.shows;
    }

module _ (h : History) (legal : IsLegal h) (T : Tables) (stands : StandsFor T h) where
  begins_history : (exchanges : List Exchange) → BeginsByFailure by_tables exchanges T → BeginsByFailure by_history exchanges h
  begins_history [] begins = begins
  begins_history (exchange ∷ earlier) (none, inl fails) = (none, inl (fails.0, fails_history h legal T stands exchange fails.1))
  begins_history (exchange ∷ earlier) (none, inr begins) = (none, inr (begins_history earlier begins))

  made_history : (exchanges : List Exchange) (U : Tables) → MayHaveMade by_tables exchanges T U → MayHaveMade by_history exchanges h U
  made_history [] U made = made
  made_history (exchange ∷ earlier) U (inl made) =
      inl (asks_one_map exchange _ _ _ _ (λ none. none)
      (λ call answer it.
      let on = CarriesOn-answer h legal T stands call Accepted U (λ _. it.1.0) (λ _. it.1.1) in
      (it.0, (on.verdict, (on.legal, on.stands)))) made)
  made_history (exchange ∷ earlier) U (inr made) = inr (made_history earlier U made)

pub went_history : (h : History) → IsLegal h → (T : Tables) → StandsFor T h → (exchanges : List Exchange) (MayLeave : Tables → Type 0)
    → Went by_tables exchanges T MayLeave → Went by_history exchanges h MayLeave
went_history h legal T stands exchanges MayLeave it =
    let now = each_history h legal T stands it.earlier it.reached it.answered in
    record {
      later = it.later;
      earlier = it.earlier;
      all = it.all;
      reached = now.later;
      answered = now.is;
      shut = elim it.shut [
        | inl none ↦ inl none
        | inr begins ↦ inr (begins_history now.later now.shows.0 it.reached now.shows.1 it.later begins)
      ];
      crash = λ U left. elim (it.crash U left) [
        | inl same ↦ inl (now.shows.0, subst (λ x. StandsFor x now.later) (sym same) now.shows.1)
        | inr made ↦ inr (made_history now.later now.shows.0 it.reached now.shows.1 it.later U made)
      ];
    }

-- ---- one exchange of a desk

-- if that was not shown, the answer is not Accepted
abbrev pub NotAccepted : {H N : Type 0} → H ⊎ N → Call → Answer → Type 0
NotAccepted (inl honest) call answer = Unit {0}
NotAccepted (inr none) call answer = answer ≢ Accepted

module _ {S : Type 0} (g : Ghosts S) (now new : S) where
  abbrev Stays : Type 0
  Stays = StaysHonest (at_desk g now new)

  -- if a call was accepted, the store stays honest; else none was, and no table changed
  abbrev Quiet : Type 0
  Quiet = g.IsHonest new → g.tables new ≡ g.tables now

  of_call : (call : Call) (answer : Answer) → Takes g now new call answer → g.IsClean new
      → (it : Stays ⊎ Quiet) × NotAccepted {H = Stays} {N = Quiet} it call answer
  of_call call Accepted took clean = (inl (took.settles.lasts clean, took.settles.kept refl), tt)
  of_call call Already took clean = (inr (λ honest. took.settles.unchanged honest (λ is. cc is)), λ is. cc is)
  of_call call (Refused refusal) took clean = (inr (λ honest. took.settles.unchanged honest (λ is. cc is)), λ is. cc is)
  of_call call (Fault fault) took clean = (inr (λ honest. took.settles.unchanged honest (λ is. cc is)), λ is. cc is)

  -- the count of failed stores does not fall
  pub asks_count : (exchange : Exchange) → AsksOne exchange (LeavesTables g now new) (Takes g now new)
      → NeverFalls (g.stores now) (g.stores new)
  asks_count exchange asks =
      (AsksOne-choice (NeverFalls (g.stores now) (g.stores new)) (LeavesTables g now new) (λ it. Unit {0}) (Takes g now new)
      (λ it call answer. Unit {0})
      (λ looked. (looked.counted, tt)) (λ call answer took. (never_falls _ _ _ took.settles.stores, tt)) exchange asks).0

  pub stays_or_quiet : (exchange : Exchange) → g.IsClean new → AsksOne exchange (LeavesTables g now new) (Takes g now new)
      → Stays ⊎ (Quiet × AcceptsNothing exchange)
  stays_or_quiet exchange clean asks =
      let it = AsksOne-choice (Stays ⊎ Quiet) (LeavesTables g now new) (λ it. Unit {0}) (Takes g now new) NotAccepted
      (λ looked. (inr looked.unchanged, tt)) (λ call answer took. of_call call answer took clean) exchange asks in
      which it.0 it.1
    where
      which : (it : Stays ⊎ Quiet) → AsksOne exchange (Unit {0}) (NotAccepted it) → Stays ⊎ (Quiet × AcceptsNothing exchange)
      which (inl stays) asks = inl stays
      which (inr quiet) asks = inr (quiet, asks)

  -- what a crash leaves: what it could before, or the call if a fault was answered
  module _ (clean : g.IsClean new) (one : g.IsHonest now → HasOneBearer (g.tables now)) (T reached : Tables) (same : g.IsHonest now
      → g.tables now ≡ reached) (left : g.may_leave new T) where
    abbrev pub Was : Type 0
    Was = g.IsHonest new ⊎ g.may_leave now T

    abbrev pub LookMade : Was ⊎ Unit {0} → Type 0
    LookMade (inl was) = Unit {0}
    LookMade (inr made) = ⊥

    abbrev pub CallMade : Was ⊎ Unit {0} → Call → Answer → Type 0
    CallMade (inl was) call answer = Unit {0}
    CallMade (inr made) call answer = (answers_fault answer ≡ true) × HasCall by_tables reached call T

    by_answer : (call : Call) (answer : Answer) → Takes g now new call answer
        → g.may_leave now T ⊎ AnswerLeavesTables (g.may_leave now) (HasCall by_tables reached call) answer T
        → (it : Was ⊎ Unit {0}) × CallMade it call answer
    by_answer call answer took (inl was) = (inl (inr was), tt)
    by_answer call Accepted took (inr leaves) = (inl (inl (took.settles.lasts clean)), tt)
    by_answer call Already took (inr leaves) = (inl (inr leaves), tt)
    by_answer call (Refused refusal) took (inr leaves) = (inl (inr leaves), tt)
    by_answer call (Fault fault) took (inr (inl was)) = (inl (inr was), tt)
    by_answer call (Fault fault) took (inr (inr made)) = (inr tt, (refl, made))

    pub call_leaves : (call : Call) (answer : Answer) → Takes g now new call answer → (it : Was ⊎ Unit {0}) × CallMade it call answer
    call_leaves call answer took = by_answer call answer took (elim (took.settles.nothing_new T left) [
      | inl was ↦ inl was
      | inr honest ↦ inr (subst (λ x. AnswerLeavesTables (g.may_leave now) (HasCall by_tables x call) answer T) (same honest)
          ((took.crash honest clean T left).tables (one honest)))
    ])

    pub exchange_leaves : (exchange : Exchange) → AsksOne exchange (LeavesTables g now new) (Takes g now new)
        → Was ⊎ AsksOne exchange ⊥ (λ call answer. (answers_fault answer ≡ true) × HasCall by_tables reached call T)
    exchange_leaves exchange asks =
        let it = AsksOne-choice (Was ⊎ Unit {0}) (LeavesTables g now new) LookMade (Takes g now new) CallMade
        (λ looked. (inl (inr (looked.crash T left)), tt)) call_leaves exchange asks in
        which it.0 it.1
      where
        which : (it : Was ⊎ Unit {0}) → AsksOne exchange (LookMade it) (CallMade it)
            → Was ⊎ AsksOne exchange ⊥ (λ call answer. (answers_fault answer ≡ true) × HasCall by_tables reached call T)
        which (inl was) asks = inl was
        which (inr made) asks = inr asks

-- ---- connections so far

module _ {S : Type 0} (g : Ghosts S) where
  -- these went so, since the desk was as it was first
  pub record WentSoFar (first now : S) (exchanges : List Exchange) : Type 0 where
    pub later : List Exchange
    pub earlier : List Exchange
    pub all : exchanges ≡ later ++ earlier
    pub reached : Tables
    pub answered : ExchangesAreAnswered by_tables earlier (g.tables first) reached
    pub same : g.IsHonest now → g.tables now ≡ reached
    pub shut : ((later ≡ []) × g.IsHonest now) ⊎ BeginsByFailure by_tables later reached
    pub crash : (T : Tables) → g.may_leave now T → (T ≡ reached) ⊎ MayHaveMade by_tables later reached T

  pub record ServedSoFar (Are : List Exchange → Type 0) (given : Option ℕ) (first now : S) (count : ℕ) : Type 0 where
    pub exchanges : List Exchange
    pub are : Are exchanges
    pub counted : length exchanges ≡ count
    pub are_given : AllByRecursion (λ exchange. IfSome given (λ it. exchange.at ≡ it)) exchanges
    pub told : g.IsHonest now → HasOneBearer (g.tables first) → ExchangesAreAnswered by_tables exchanges (g.tables first) (g.tables now)
    pub went : g.IsHonest first → g.IsClean now → HasOneBearer (g.tables first) → WentSoFar first now exchanges

  -- a store that is honest: all were answered
  all_answered : (first now : S) (exchanges : List Exchange) → ((s : S) → g.IsHonest s → (T : Tables) → g.may_leave s T → T ≡ g.tables s)
      → g.IsHonest now → ExchangesAreAnswered by_tables exchanges (g.tables first) (g.tables now) → WentSoFar first now exchanges
  all_answered first now exchanges settled honest told = record {
    later = [];
    earlier = exchanges;
    all = refl;
    reached = g.tables now;
    answered = told;
    same = λ _. refl;
    shut = inl (refl, honest);
    crash = λ T left. inl (settled now honest T left);
  }

  pub served_none : (Are : List Exchange → Type 0) → Are [] → (given : Option ℕ) (first : S)
      → ((s : S) → g.IsHonest s → (T : Tables) → g.may_leave s T → T ≡ g.tables s)
      → ServedSoFar Are given first first 0
  served_none Are none given first settled = record {
    exchanges = [];
    are = none;
    counted = refl;
    are_given = tt;
    told = λ _ _. refl;
    went = λ honest _ _. all_answered first first [] settled honest refl;
  }

  module _ (settled : (s : S) → g.IsHonest s → (T : Tables) → g.may_leave s T → T ≡ g.tables s)
      (first now mid new : S) (exchange : Exchange) (exchanges : List Exchange)
      (before : KeepsInvariants g first now) (answers : DeskAnswersExchange g now mid exchange) (looked : LeavesTables g mid new)
      (idle : g.failures mid ≡ g.failures now → new ≡ mid) where
    told_push : (g.IsHonest now → HasOneBearer (g.tables first) → ExchangesAreAnswered by_tables exchanges (g.tables first) (g.tables now))
        → g.IsHonest new → HasOneBearer (g.tables first)
        → ExchangesAreAnswered by_tables (exchange ∷ exchanges) (g.tables first) (g.tables new)
    told_push told honest one =
        let then = looked.honest honest in
        let was = answers.keeps.honest then in
        (g.tables now, told was one, rw (looked.unchanged honest) (answers.tables then (before.one_bearer was one)))

    -- no call was accepted, and a fault has shut the store
    went_quiet : g.IsClean new → HasOneBearer (g.tables first) → (g.IsHonest mid → g.tables mid ≡ g.tables now)
        → (later earlier : List Exchange) → exchanges ≡ later ++ earlier
        → (reached : Tables) → ExchangesAreAnswered by_tables earlier (g.tables first) reached → (g.IsHonest now → g.tables now ≡ reached)
        → ((T : Tables) → g.may_leave now T → (T ≡ reached) ⊎ MayHaveMade by_tables later reached T)
        → BeginsByFailure by_tables (exchange ∷ later) reached → WentSoFar first new (exchange ∷ exchanges)
    went_quiet clean one quiet later earlier all reached answered same crash begins =
        let same_then = λ (honest : g.IsHonest mid). quiet honest ∙ same (answers.keeps.honest honest) in
        record {
          later = exchange ∷ later;
          earlier = earlier;
          all = subst (λ l. exchange ∷ exchanges ≡ exchange ∷ l) all refl;
          reached = reached;
          answered = answered;
          same = λ honest. looked.unchanged honest ∙ same_then (looked.honest honest);
          shut = inr begins;
          crash = λ T left. elim (exchange_leaves g now mid (looked.clean clean) (λ honest. before.one_bearer honest one) T reached same
              (looked.crash T left) exchange answers.asks) [
                | inl was ↦ elim was [
                  | inl honest ↦ inl (settled mid honest T (looked.crash T left) ∙ same_then honest)
                  | inr may ↦ elim (crash T may) [ inl is ↦ inl is | inr made ↦ inr (inr made) ]
                ]
                | inr made ↦ inr (inl made)
              ];
        }

    went_push : (told : g.IsHonest now → HasOneBearer (g.tables first)
        → ExchangesAreAnswered by_tables exchanges (g.tables first) (g.tables now))
        → g.IsClean new → HasOneBearer (g.tables first) → WentSoFar first now exchanges → WentSoFar first new (exchange ∷ exchanges)
    went_push told clean one it =
        let clean_then = looked.clean clean in
        let honest_then = λ (is : StaysHonest (at_desk g now mid)). subst g.IsHonest (sym (idle is.1)) is.0 in
        let stays = λ (is : StaysHonest (at_desk g now mid)). all_answered first new (exchange ∷ exchanges) settled (honest_then is)
        (told_push told (honest_then is) one) in
        elim (stays_or_quiet g now mid exchange clean_then answers.asks) [
          | inl is ↦ stays is
          | inr quiet ↦ elim it.shut [
            | inl still ↦ elim (answers.lasts still.1 clean_then (before.one_bearer still.1 one)) [
              | inl is ↦ stays is
              | inr fails ↦
                  went_quiet clean one quiet.0 [] exchanges refl (g.tables now) (told still.1 one) (λ _. refl)
                  (λ T left. inl (settled now still.1 T left)) (quiet.1, inl (refl, fails))
            ]
            | inr begins ↦
                went_quiet clean one quiet.0 it.later it.earlier it.all it.reached it.answered it.same it.crash (quiet.1, inr begins)
          ]
        ]

  -- one more connection, and a look after it, which is made only if a call failed meanwhile
  pub served_push : ((s : S) → g.IsHonest s → (T : Tables) → g.may_leave s T → T ≡ g.tables s)
      → (Are Are' : List Exchange → Type 0) (exchange : Exchange) → ((earlier : List Exchange) → Are earlier → Are' (exchange ∷ earlier))
      → (given : Option ℕ) → IfSome given (λ it. exchange.at ≡ it)
      → (first now mid new : S) (count : ℕ) → KeepsInvariants g first now → DeskAnswersExchange g now mid exchange → LeavesTables g mid new
      → (g.failures mid ≡ g.failures now → new ≡ mid)
      → ServedSoFar Are given first now count → ServedSoFar Are' given first new (count + 1)
  served_push settled Are Are' exchange more given is_given first now mid new count before answers looked idle it = record {
    exchanges = exchange ∷ it.exchanges;
    are = more it.exchanges it.are;
    counted = omega (arith, it.counted);
    are_given = (is_given, it.are_given);
    told = told_push settled first now mid new exchange it.exchanges before answers looked idle it.told;
    went = λ honest clean one.
        went_push settled first now mid new exchange it.exchanges before answers looked idle it.told clean one
        (it.went honest (answers.keeps.clean (looked.clean clean)) one);
  }

  -- ---- at an end

  went_at_end : (first now : S) (exchanges : List Exchange) → WentSoFar first now exchanges
      → Went by_tables exchanges (g.tables first) (g.may_leave now)
  went_at_end first now exchanges it = record {
    later = it.later;
    earlier = it.earlier;
    all = it.all;
    reached = it.reached;
    answered = it.answered;
    shut = elim it.shut [ inl still ↦ inl still.0 | inr begins ↦ inr begins ];
    crash = it.crash;
  }

  pub served : (Are Are' : List Exchange → Type 0) → ((exchanges : List Exchange) → Are exchanges → Are' exchanges)
      → (given : Option ℕ) (IsCount : ℕ → Type 0) (first now : S) (count : ℕ) → IsCount count → ServedSoFar Are given first now count
      → DeskAnswersConnections (at_desk g first now) Are' given IsCount
  served Are Are' f given IsCount first now count is it = record {
    exchanges = it.exchanges;
    are = f it.exchanges it.are;
    counted = subst IsCount (sym it.counted) is;
    are_given = it.are_given;
    answered = λ honest. record {
      tables = λ one. record { later = g.tables now; is = it.told honest one; shows = refl };
      history = λ h legal stands. each_history h legal (g.tables first) stands it.exchanges (g.tables now)
          (it.told honest (sound_when_legal h legal _ stands).one_bearer);
    };
    went = λ honest clean. record {
      tables = λ one. went_at_end first now it.exchanges (it.went honest clean one);
      history = λ h legal stands.
          went_history h legal (g.tables first) stands it.exchanges (g.may_leave now)
          (went_at_end first now it.exchanges (it.went honest clean (sound_when_legal h legal _ stands).one_bearer));
    };
  }
