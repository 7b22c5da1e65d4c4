-- Lines that were answered, up to a fault that shut the store if one did, and what a crash leaves.
use Rattle.index_cli.proofs.Words.{◌≡◌, ◌≢◌, ◌∙◌, ◌⊎◌, ℕ, true, inl, inr, refl, subst, sym, ap, List, [], ◌∷◌, ◌++◌}
use Rattle.index_cli.proofs.Words.{Option, Result, append_assoc, append-nil, Answer, Accepted, Already, Refused}
use Rattle.index_cli.proofs.Words.{Fault, Ghosts, Call, HasOneBearer, History, IsLegal, StandsFor, Tables, CarriesOn-answer}
use Rattle.index_cli.proofs.Words.{sound_when_legal, HasCall, KeepsInvariants, LeavesTables, by_history}
use Rattle.index_cli.proofs.Words.{by_tables, Takes, answers_fault, at_desk, LineEnd, LinesEnd, Telling, AsksKept, AsksLine, IsFaultText}
use Rattle.index_cli.proofs.Words.{line_feed, AcceptNone, Answered, BeginsByFault, LinesMayHaveMade, LinesWent, lines_in, text_by}
use Rattle.index_cli.proofs.Words.{KeptLineIsAnswered, TextAnswersLine, TextAnswersLines}
use Rattle.index_cli.specs.DeskAnswers.{LinesAreAnswered, by_desk}
use Rattle.index_cli.specs.Replies.{IsHonestOrFault}
use Rattle.index_cli.proofs.Calls.{asks_line_map}
use Rattle.index_cli.proofs.Choices.{AsksLine-choice}
use Rattle.index_cli.proofs.Histories.{line_after, lines_after}
use Rattle.index_cli.proofs.Progress.{Pushes, TextAnswersLines-push}
use Rattle.index_cli.proofs.RunEnds.{LinesEnd-map}
use Rattle.index_cli.proofs.WentLemmas.{NotAccepted, call_leaves, CallMade, LookMade}

-- ---- one more line after a fault

asked_push : (later : Answered) (line reply : List ℕ) → lines_in (later ++ (line, reply) ∷ []) ≡ lines_in later ++ line ∷ []
asked_push [] line reply = refl
asked_push ((before, earlier) ∷ later) line reply = ap (λ l. before ∷ l) (asked_push later line reply)

text_push : (later : Answered) (line reply : List ℕ) → text_by (later ++ (line, reply) ∷ []) ≡ text_by later ++ (reply ++ line_feed ∷ [])
text_push [] line reply = append-nil (reply ++ line_feed ∷ [])
text_push ((before, earlier) ∷ later) line reply =
    ap (λ l. (earlier ++ line_feed ∷ []) ++ l) (text_push later line reply)
    ∙ sym (append_assoc (earlier ++ line_feed ∷ []) (text_by later) (reply ++ line_feed ∷ []))

none_push : (later : Answered) (line reply : List ℕ) → AcceptNone later → AsksLine line reply (Unit {0}) (λ call answer. answer ≢ Accepted)
    → AcceptNone (later ++ (line, reply) ∷ [])
none_push [] line reply none asks = (asks, tt)
none_push ((before, earlier) ∷ later) line reply none asks = (none.0, none_push later line reply none.1 asks)

begins_push : (later : Answered) (line reply : List ℕ) (s : Tables) → BeginsByFault by_tables later s
    → BeginsByFault by_tables (later ++ (line, reply) ∷ []) s
begins_push [] line reply s begins = absurd begins
begins_push ((before, earlier) ∷ later) line reply s begins = begins

made_push : (later : Answered) (line reply : List ℕ) (s T : Tables) → LinesMayHaveMade by_tables later s T
    → LinesMayHaveMade by_tables (later ++ (line, reply) ∷ []) s T
made_push [] line reply s T made = absurd made
made_push ((before, earlier) ∷ later) line reply s T (inl made) = inl made
made_push ((before, earlier) ∷ later) line reply s T (inr made) = inr (made_push later line reply s T made)

made_now : (later : Answered) (line reply : List ℕ) (s T : Tables)
    → AsksLine line reply ⊥ (λ call answer. (answers_fault answer ≡ true) × HasCall by_tables s call T)
    → LinesMayHaveMade by_tables (later ++ (line, reply) ∷ []) s T
made_now [] line reply s T made = inl made
made_now ((before, earlier) ∷ later) line reply s T made = inr (made_now later line reply s T made)

-- ---- by a history for which the tables stood

module _ (h : History) (legal : IsLegal h) (T : Tables) (stands : StandsFor T h) where
  begins_history : (later : Answered) → BeginsByFault by_tables later T → BeginsByFault by_history later h
  begins_history [] begins = begins
  begins_history ((line, reply) ∷ later) (between, tells, fault) =
      let one = line_after h legal T stands line reply between tells in (one.later, one.is, fault)

  made_history : (later : Answered) (U : Tables) → LinesMayHaveMade by_tables later T U → LinesMayHaveMade by_history later h U
  made_history [] U made = made
  made_history ((line, reply) ∷ later) U (inl made) =
      inl (asks_line_map line reply _ _ _ _ (λ none. none)
      (λ call answer it.
      let on = CarriesOn-answer h legal T stands call Accepted U (λ _. it.1.0) (λ _. it.1.1) in
      (it.0, (on.verdict, (on.legal, on.stands)))) made)
  made_history ((line, reply) ∷ later) U (inr made) = inr (made_history later U made)

pub lines_went_history : (h : History) → IsLegal h → (T : Tables) → StandsFor T h
    → (lines : List (List ℕ)) (text : List ℕ) (MayLeave : Tables → Type 0)
    → LinesWent by_tables lines text T MayLeave → LinesWent by_history lines text h MayLeave
lines_went_history h legal T stands lines text MayLeave it =
    let now = lines_after h legal T stands it.earlier it.told it.reached it.answered in
    record {
      earlier = it.earlier;
      told = it.told;
      later = it.later;
      all = it.all;
      whole = it.whole;
      reached = now.later;
      answered = now.is;
      none = it.none;
      shut = elim it.shut [
        | inl none ↦ inl none
        | inr begins ↦ inr (begins_history now.later now.shows.0 it.reached now.shows.1 it.later begins)
      ];
      crash = λ U left. elim (it.crash U left) [
        | inl same ↦ inl (now.shows.0, subst (λ x. StandsFor x now.later) (sym same) now.shows.1)
        | inr made ↦ inr (made_history now.later now.shows.0 it.reached now.shows.1 it.later U made)
      ];
    }

-- ---- one line of a desk

module _ {S : Type 0} (g : Ghosts S) (now new : S) where
  abbrev Quiet : Type 0
  Quiet = g.IsHonest new → g.tables new ≡ g.tables now

  line_call : (call : Call) (answer : Answer) → Takes g now new call answer → g.IsClean new
      → (it : g.IsHonest new ⊎ Quiet) × NotAccepted {H = g.IsHonest new} {N = Quiet} it call answer
  line_call call Accepted took clean = (inl (took.settles.lasts clean), tt)
  line_call call Already took clean = (inr (λ honest. took.settles.unchanged honest (λ is. cc is)), λ is. cc is)
  line_call call (Refused refusal) took clean = (inr (λ honest. took.settles.unchanged honest (λ is. cc is)), λ is. cc is)
  line_call call (Fault fault) took clean = (inr (λ honest. took.settles.unchanged honest (λ is. cc is)), λ is. cc is)

  honest_or_quiet : (line text : List ℕ) → g.IsClean new → AsksLine line text (LeavesTables g now new) (Takes g now new)
      → g.IsHonest new ⊎ (Quiet × AsksLine line text (Unit {0}) (λ call answer. answer ≢ Accepted))
  honest_or_quiet line text clean asks =
      let it = AsksLine-choice (g.IsHonest new ⊎ Quiet) (LeavesTables g now new) (λ it. Unit {0}) (Takes g now new) NotAccepted
      (λ looked. (inr looked.unchanged, tt)) (λ call answer took. line_call call answer took clean) line text asks in
      which it.0 it.1
    where
      which : (it : g.IsHonest new ⊎ Quiet) → AsksLine line text (Unit {0}) (NotAccepted it)
          → g.IsHonest new ⊎ (Quiet × AsksLine line text (Unit {0}) (λ call answer. answer ≢ Accepted))
      which (inl honest) asks = inl honest
      which (inr quiet) asks = inr (quiet, asks)

  line_leaves : (clean : g.IsClean new) (one : g.IsHonest now → HasOneBearer (g.tables now)) (T reached : Tables) (same : g.IsHonest now
      → g.tables now ≡ reached) (left : g.may_leave new T)
      → (line text : List ℕ) → AsksLine line text (LeavesTables g now new) (Takes g now new)
      → (g.IsHonest new ⊎ g.may_leave now T) ⊎ AsksLine line text ⊥
      (λ call answer. (answers_fault answer ≡ true) × HasCall by_tables reached call T)
  line_leaves clean one T reached same left line text asks =
      let it = AsksLine-choice ((g.IsHonest new ⊎ g.may_leave now T) ⊎ Unit {0}) (LeavesTables g now new)
      (LookMade g now new clean one T reached same left) (Takes g now new) (CallMade g now new clean one T reached same left)
      (λ looked. (inl (inr (looked.crash T left)), tt)) (call_leaves g now new clean one T reached same left) line text asks in
      which it.0 it.1
    where
      which : (it : (g.IsHonest new ⊎ g.may_leave now T) ⊎ Unit {0})
          → AsksLine line text (LookMade g now new clean one T reached same left it) (CallMade g now new clean one T reached same left it)
          → (g.IsHonest new ⊎ g.may_leave now T)
          ⊎ AsksLine line text ⊥ (λ call answer. (answers_fault answer ≡ true) × HasCall by_tables reached call T)
      which (inl was) asks = inl was
      which (inr made) asks = inr asks

-- ---- lines so far

module _ {S : Type 0} (g : Ghosts S) where
  pub record LinesWentSoFar (first now : S) (lines : List (List ℕ)) (text : List ℕ) : Type 0 where
    pub earlier : List (List ℕ)
    pub told : List ℕ
    pub later : Answered
    pub all : lines ≡ earlier ++ lines_in later
    pub whole : text ≡ told ++ text_by later
    pub reached : Tables
    pub answered : TextAnswersLines by_tables (g.tables first) earlier told reached
    pub none : AcceptNone later
    pub same : g.IsHonest now → g.tables now ≡ reached
    pub shut : ((later ≡ []) × g.IsHonest now) ⊎ BeginsByFault by_tables later reached
    pub crash : (T : Tables) → g.may_leave now T → (T ≡ reached) ⊎ LinesMayHaveMade by_tables later reached T

  -- the lines so far, since the desk was as it was first
  pub record LinesSoFar (first now : S) (lines : List (List ℕ)) (text : List ℕ) : Type 0 where
    pub told : g.IsHonest now → HasOneBearer (g.tables first) → TextAnswersLines by_tables (g.tables first) lines text (g.tables now)
    pub went : g.IsHonest first → g.IsClean now → HasOneBearer (g.tables first) → LinesWentSoFar first now lines text

  -- so of lines, whatever the tables
  abbrev pub so_far : (first now : S) → Telling
  so_far first now lines text T = LinesSoFar first now lines text

  module _ (settled : (s : S) → g.IsHonest s → (T : Tables) → g.may_leave s T → T ≡ g.tables s) where
    -- a store that is honest: all were answered
    all_told : (first now : S) (lines : List (List ℕ)) (text : List ℕ) → g.IsHonest now
        → TextAnswersLines by_tables (g.tables first) lines text (g.tables now) → LinesWentSoFar first now lines text
    all_told first now lines text honest told = record {
      earlier = lines;
      told = text;
      later = [];
      all = sym (append-nil lines);
      whole = sym (append-nil text);
      reached = g.tables now;
      answered = told;
      none = tt;
      same = λ _. refl;
      shut = inl (refl, honest);
      crash = λ T left. inl (settled now honest T left);
    }

    pub lines_none : (first : S) → LinesSoFar first first [] []
    lines_none first = record { told = λ _ _. (refl, refl); went = λ honest _ _. all_told first first [] [] honest (refl, refl) }

    module _ (first now new : S) (lines : List (List ℕ)) (text line reply : List ℕ) (before : KeepsInvariants g first now)
        (keeps : KeepsInvariants g now new)
        (asks : AsksLine line reply (LeavesTables g now new) (Takes g now new)) where
      -- no call was accepted, and a fault has shut the store
      went_quiet : g.IsClean new → HasOneBearer (g.tables first) → (g.IsHonest new → g.tables new ≡ g.tables now)
          → AsksLine line reply (Unit {0}) (λ call answer. answer ≢ Accepted)
          → (earlier : List (List ℕ)) (told : List ℕ) (later : Answered) → lines ≡ earlier ++ lines_in later → text ≡ told ++ text_by later
          → (reached : Tables) → TextAnswersLines by_tables (g.tables first) earlier told reached → AcceptNone later
          → (g.IsHonest now → g.tables now ≡ reached)
          → ((T : Tables) → g.may_leave now T → (T ≡ reached) ⊎ LinesMayHaveMade by_tables later reached T)
          → BeginsByFault by_tables (later ++ (line, reply) ∷ []) reached
          → LinesWentSoFar first new (lines ++ line ∷ []) (text ++ (reply ++ line_feed ∷ []))
      went_quiet clean one quiet none_now earlier told later all whole reached answered none same crash begins =
          let same_then = λ (honest : g.IsHonest new). quiet honest ∙ same (keeps.honest honest) in
          record {
            earlier = earlier;
            told = told;
            later = later ++ (line, reply) ∷ [];
            all = ap (λ l. l ++ line ∷ []) all ∙ append_assoc earlier (lines_in later) (line ∷ [])
                ∙ ap (λ l. earlier ++ l) (sym (asked_push later line reply));
            whole = ap (λ l. l ++ (reply ++ line_feed ∷ [])) whole ∙ append_assoc told (text_by later) (reply ++ line_feed ∷ [])
                ∙ ap (λ l. told ++ l) (sym (text_push later line reply));
            reached = reached;
            answered = answered;
            none = none_push later line reply none none_now;
            same = same_then;
            shut = inr begins;
            crash = λ T left. elim (line_leaves g now new clean (λ honest. before.one_bearer honest one)
                T reached same left line reply asks) [
                  | inl was ↦ elim was [
                    | inl honest ↦ inl (settled new honest T left ∙ same_then honest)
                    | inr may ↦ elim (crash T may) [ inl is ↦ inl is | inr made ↦ inr (made_push later line reply reached T made) ]
                  ]
                  | inr made ↦ inr (made_now later line reply reached T made)
                ];
          }

      went_push : (told : g.IsHonest new → HasOneBearer (g.tables first)
          → TextAnswersLines by_tables (g.tables first) (lines ++ line ∷ []) (text ++ (reply ++ line_feed ∷ [])) (g.tables new))
          → (told_now : g.IsHonest now → HasOneBearer (g.tables first)
          → TextAnswersLines by_tables (g.tables first) lines text (g.tables now))
          → (g.IsHonest now → g.IsClean new → g.IsHonest new
          ⊎ (IsFaultText reply × TextAnswersLine by_tables line (g.tables now) reply (g.tables now)))
          → g.IsClean new → HasOneBearer (g.tables first) → LinesWentSoFar first now lines text
          → LinesWentSoFar first new (lines ++ line ∷ []) (text ++ (reply ++ line_feed ∷ []))
      went_push told told_now lasts clean one it =
          let stays = λ (honest : g.IsHonest new). all_told first new (lines ++ line ∷ []) (text ++ (reply ++ line_feed ∷ [])) honest
          (told honest one) in
          elim (honest_or_quiet g now new line reply clean asks) [
            | inl honest ↦ stays honest
            | inr quiet ↦ elim it.shut [
              | inl still ↦ elim (lasts still.1 clean) [
                | inl honest ↦ stays honest
                | inr fault ↦
                    went_quiet clean one quiet.0 quiet.1 lines text [] (sym (append-nil lines)) (sym (append-nil text)) (g.tables now)
                    (told_now still.1 one) tt (λ _. refl)
                    (λ T left. inl (settled now still.1 T left)) (g.tables now, fault.1, fault.0)
              ]
              | inr begins ↦
                  went_quiet clean one quiet.0 quiet.1 it.earlier it.told it.later it.all it.whole it.reached it.answered it.none it.same
                  it.crash (begins_push it.later line reply it.reached begins)
            ]
          ]

    pub lines_push : (first now new : S) (T U : Tables) (size : ℕ) (kept reply : List ℕ) → KeepsInvariants g first now
        → KeepsInvariants g now new
        → (g.IsHonest new → HasOneBearer (g.tables now) → KeptLineIsAnswered size kept (g.tables now) reply (g.tables new))
        → (g.IsHonest now → g.IsClean new → IsHonestOrFault g new reply (KeptLineIsAnswered size kept (g.tables now) reply (g.tables now)))
        → AsksKept size kept reply (LeavesTables g now new) (Takes g now new)
        → Pushes (so_far first now) (so_far first new) T U size kept reply
    lines_push first now new T U size kept reply before keeps replies lasts asks done told line sized front it =
        let told_then = λ (honest : g.IsHonest new) (one : HasOneBearer (g.tables first)).
        let then = keeps.honest honest in
        TextAnswersLines-push _ _ _ done told line reply (it.told then one) (replies honest (before.one_bearer then one) line sized front)
        in
        record {
          told = told_then;
          went = λ honest clean one.
              went_push first now new done told line reply before keeps (asks line sized front) told_then it.told
              (λ then clean. elim (lasts then clean) [ inl is ↦ inl is | inr fault ↦ inr (fault.0, fault.1 line sized front) ])
              clean one (it.went honest (keeps.clean clean) one);
        }

-- ---- at an end, after a look that changed no table

module _ {S : Type 0} (g : Ghosts S) (first now new : S) (looked : LeavesTables g now new) where
  module _ (lines : List (List ℕ)) (text : List ℕ) (it : LinesSoFar g first now lines text) where
    told_then : g.IsHonest new → HasOneBearer (g.tables first) → TextAnswersLines by_tables (g.tables first) lines text (g.tables new)
    told_then honest one = subst (λ T. TextAnswersLines by_tables (g.tables first) lines text T) (sym (looked.unchanged honest))
        (it.told (looked.honest honest) one)

    went_then : g.IsHonest first → g.IsClean new → HasOneBearer (g.tables first)
        → LinesWent by_tables lines text (g.tables first) (g.may_leave new)
    went_then honest clean one =
        let went = it.went honest (looked.clean clean) one in
        record {
          earlier = went.earlier;
          told = went.told;
          later = went.later;
          all = went.all;
          whole = went.whole;
          reached = went.reached;
          answered = went.answered;
          none = went.none;
          shut = elim went.shut [ inl still ↦ inl still.0 | inr begins ↦ inr begins ];
          crash = λ T left. went.crash T (looked.crash T left);
        }

    lines_answered : LinesAreAnswered (at_desk g first new) lines text
    lines_answered = record {
      answered = λ honest. record {
        tables = λ one. record { later = g.tables new; is = told_then honest one; shows = refl };
        history = λ h legal stands.
            lines_after h legal (g.tables first) stands lines text (g.tables new)
            (told_then honest (sound_when_legal h legal _ stands).one_bearer);
      };
      went = λ honest clean. record {
        tables = went_then honest clean;
        history = λ h legal stands.
            lines_went_history h legal (g.tables first) stands lines text (g.may_leave new)
            (went_then honest clean (sound_when_legal h legal _ stands).one_bearer);
      };
    }

  pub lines_end : (U T : Tables) (a b w0 w1 : Option (List ℕ)) (result : Result ℕ LineEnd)
      → LinesEnd (so_far g first now) U a b w0 w1 result → LinesEnd (by_desk (at_desk g first new)) T a b w0 w1 result
  lines_end U T a b w0 w1 result ends = LinesEnd-map (so_far g first now) (by_desk (at_desk g first new))
      U T lines_answered a b w0 w1 result ends
