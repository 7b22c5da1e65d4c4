-- Connections of which it is known what came and went on them.
use Rattle.std.proofs.Common.{◌≡◌, ℕ, List, [], ◌∷◌, ◌++◌, map, Option, Some, refl, sym, ap, subst, ◌∙◌, append_assoc, append-nil}
use Rattle.std.proofs.Common.{unwrap_or}
use Rattle.std.specs.List.{AllByRecursion}
use mathlib.Core.List.{map-append}
use Rattle.index_cli.specs.Connections.{AddsReply, AreOn, Came, ClientTaken, Closed, Exchange, IsUnsent, KnownList, KnownReplies, Loses}
use Rattle.index_cli.specs.Connections.{SentReply, StreamFaults, no_faults}
use Rattle.index_fault_tests.specs.Clients.{AreNamed, messages_in, replies_in}

-- the messages that came are the first of those that were to come
came_named : (messages : List (List ℕ)) (later : KnownList) (exchanges : List Exchange) → Came (Some messages) later exchanges
    → (rest : List (List ℕ)) × (later ≡ Some rest) × (messages_in exchanges ++ map (λ it. Some it) rest ≡ map (λ it. Some it) messages)
came_named messages later [] came = (messages, came, refl)
came_named messages later (exchange ∷ earlier) came =
    let before = came_named messages came.0 earlier came.1 in
    let takes = subst (λ (it : KnownList). ClientTaken it later exchange.given) before.1 came.2 in
    let first : exchange.given ∷ map (λ it. Some it) takes.1 ≡ map (λ it. Some it) before.0 =
    ap (λ it. it ∷ map (λ it. Some it) takes.1) takes.3 ∙ sym (ap (map (λ it. Some it)) takes.2) in (
      takes.1,
      takes.4,
      append_assoc (messages_in earlier) (exchange.given ∷ []) (map (λ it. Some it) takes.1)
          ∙ ap (λ it. messages_in earlier ++ it) first ∙ before.2,
    )

abbrev out : SentReply → Option (List ℕ) × StreamFaults
out reply = (Some reply.bytes, reply.faults)

-- the replies that went out stand behind those that had gone out before, and nothing was sent to these before
closed_named : (replies : List SentReply) (later : KnownReplies) (exchanges : List Exchange) → Closed (Some replies) later exchanges
    → (all : List SentReply) × (later ≡ Some all) × (map out replies ++ replies_in exchanges ≡ map out all)
    × AllByRecursion (λ exchange. exchange.had ≡ Some []) exchanges
closed_named replies later [] closed = (replies, closed, append-nil (map out replies), tt)
closed_named replies later (exchange ∷ earlier) closed =
    let before = closed_named replies closed.0 earlier closed.1 in
    let adds = subst (λ (it : KnownReplies). AddsReply it later exchange.has exchange.faults) before.1 closed.3 in
    let one : SentReply = record { bytes = adds.0; faults = exchange.faults } in (
      before.0 ++ one ∷ [],
      adds.2,
      sym (append_assoc (map out replies) (replies_in earlier) ((exchange.has, exchange.faults) ∷ []))
          ∙ ap (λ it. it ++ (exchange.has, exchange.faults) ∷ []) before.2
          ∙ ap (λ it. map out before.0 ++ (it, exchange.faults) ∷ []) adds.1
          ∙ sym (map-append out before.0 (one ∷ [])),
      (subst (λ (it : KnownReplies). IsUnsent it exchange.had) before.1 closed.2, before.3),
    )

-- connections of which none had been closed are named
pub are_named : {C : Type 0} (coming : C → KnownList) (replies : C
    → KnownReplies) (old new : C) (messages : List (List ℕ)) (told : List SentReply)
    → coming old ≡ Some messages → replies old ≡ Some [] → replies new ≡ Some told
    → (exchanges : List Exchange) → AreOn coming replies old new exchanges → AreNamed messages told exchanges
are_named coming replies old new messages told to_come none went exchanges are =
    let came = came_named messages are.later exchanges (subst (λ (it : KnownList). Came it are.later exchanges) to_come are.came) in
    let closed = closed_named [] (replies new) exchanges (subst (λ (it : KnownReplies). Closed it (replies new) exchanges) none are.closed)
    in
    let all : closed.0 ≡ told = ap (λ it. unwrap_or it []) (sym closed.1 ∙ went) in
    record { rest = came.0; given = came.2; has = closed.2 ∙ ap (map out) all; had = closed.3 }

-- the first of those that were to come was passed over
pub first_lost : {A B : Type 0} (message : A → List ℕ) (sent : B
    → SentReply) (first : A) (reply : B) (old between new : List A) (replies later : List B)
    → old ≡ first ∷ between → new ≡ between → later ≡ replies ++ reply ∷ [] → sent reply ≡ record { bytes = []; faults = no_faults }
    → Loses (Some (map message old)) (Some (map message new)) (Some (map sent replies)) (Some (map sent later))
first_lost message sent first reply old between new replies later came kept added empty = (
  Some (message first),
  (message first, map message between, ap (map message) came, refl, ap (λ it. Some (map message it)) kept),
  (
    [],
    refl,
    ap (λ it. Some it) (ap (map sent) added ∙ map-append sent replies (reply ∷ [])
        ∙ ap (λ it. map sent replies ++ it ∷ []) empty),
  ),
)
