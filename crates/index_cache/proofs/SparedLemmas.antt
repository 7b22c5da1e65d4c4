-- The bytes that a change spares are in the tables after it.
use Rattle.std.proofs.Common.{◌≡◌, ◌≤◌, Bool, true, false, true≢false, cond, not, refl, sym, ap, ◌∙◌, List, Some, None, filter, length}
use Rattle.std.proofs.Common.{arith}
use Rattle.std.specs.FinMap.{get}
use Rattle.std.specs.List.{All}
use Rattle.std.proofs.lemmas.List.Elements.{All-filter, filter_passes}
use Rattle.std.proofs.lemmas.List.Filters.{sum_by-filter_both, length-filter_both}
use Rattle.index_rules.specs.Maps.{Bytes}
use Rattle.index_rules.specs.Tables.{Tables}
use Rattle.index_rules.specs.Effect.{means}
use Rattle.index_rules.specs.declared.change.Change.{Change}
use Rattle.index_rules.specs.declared.change.Change.TheVariants as change
use Rattle.index_rules.proofs.KeyLemmas.{get-put, get-without}
use Rattle.index_cache.specs.declared.entries.CachedBody.{CachedBody}
use Rattle.index_cache.specs.Entries.{IsCachedBody, body_bytes}
use Rattle.index_cache.specs.Spared.{spares_file, spares_body}

other : (b : Bool) → not b ≡ true → b ≡ false
other false h = refl
other true h = sym h

pub spared : (c : Change) (file : Bytes) (T : Tables) → spares_file c file ≡ true → get (means c T).bodies file ≡ get T.bodies file
spared (change.AddUser _ _) file T h = refl
spared (change.SetToken _ _) file T h = refl
spared (change.SetQuota _ _) file T h = refl
spared (change.Claim _ _ _) file T h = refl
spared (change.AddOwner _ _) file T h = refl
spared (change.RemoveOwner _ _) file T h = refl
spared (change.Upload _ _ changed _ body _) file T h =
    get-put T.bodies changed body file ∙ ap (λ b. cond b (Some body) (get T.bodies file)) (other _ h)
spared (change.Delete _ _ changed _) file T h = get-without T.bodies changed file ∙ ap (λ b. cond b None (get T.bodies file)) (other _ h)
spared (change.BanFile _ _ changed _) file T h = get-without T.bodies changed file ∙ ap (λ b. cond b None (get T.bodies file)) (other _ h)
spared (change.Yank _ _ _) file T h = refl
spared (change.Unyank _ _) file T h = refl
spared (change.Relinquish _) file T h = refl
spared (change.Prohibit _) file T h = absurd (true≢false (sym h))
spared (change.Allow _) file T h = refl
spared (change.OpenCase _ _) file T h = refl
spared (change.RecordAttempt _ _) file T h = refl
spared (change.Transfer _ _) file T h = refl
spared (change.CloseCase _) file T h = refl
spared (change.AnswerCase _) file T h = refl

-- what is kept of the bodies that a change spares
pub still_cached : (c : Change) (T : Tables) (bodies : List CachedBody) → All (IsCachedBody T) bodies
    → All (IsCachedBody T) (filter (spares_body c) bodies)
still_cached c T bodies kept = All-filter (spares_body c) (IsCachedBody T) bodies kept

pub cached_after : (c : Change) (T : Tables) (bodies : List CachedBody) → All (IsCachedBody T) (filter (spares_body c) bodies)
    → All (IsCachedBody (means c T)) (filter (spares_body c) bodies)
cached_after c T bodies kept k d lt = spared c _ T (filter_passes (spares_body c) bodies k d lt) ∙ kept k d lt

-- the bodies that a change spares are no more than all, and have no more bytes
pub spared_length : (c : Change) (bodies : List CachedBody) → length (filter (spares_body c) bodies) ≤ length bodies
spared_length c bodies = omega (arith, length-filter_both (spares_body c) (λ kept. not (spares_body c kept)) (λ _. refl) bodies)

pub spared_bytes : (c : Change) (bodies : List CachedBody) → body_bytes (filter (spares_body c) bodies) ≤ body_bytes bodies
spared_bytes c bodies = omega (
  arith,
  sum_by-filter_both (spares_body c) (λ kept. not (spares_body c kept)) (λ _. refl)
      (λ kept. length kept.body) bodies,
)
