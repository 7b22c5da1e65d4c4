-- The names that proofs of this crate take from elsewhere, from one place.
pub use Rattle.index_rules.proofs.KeyLemmas.{get-change_values}
pub use Rattle.index_rules.specs.Effect.{means}
pub use Rattle.index_rules.specs.Maps.{Bytes}
pub use Rattle.index_rules.specs.Tables.{Tables}
pub use Rattle.index_rules.specs.declared.change.Change.{Change}
pub use Rattle.index_volume.specs.Places.{LiesBelow, bytes_at, place_end}
pub use Rattle.index_volume_books.specs.Last.{IsLast}
pub use Rattle.index_volume_books.specs.Over.{Fits, has_body, over, with_stored}
pub use Rattle.index_volume_books.specs.OverLaws.{over_same}
pub use Rattle.index_volume_books.specs.Taken.{AreSettled, AreTaken}
pub use Rattle.index_volume_books.specs.Through.{BothHonest, Side, side_of}
pub use Rattle.std.proofs.Common.{Bool, Err, IsTrue, List, None, Ok, Option, Result, Some, [], ap, arith, cond, false, inl, inr, is_ok}
pub use Rattle.std.proofs.Common.{length, not, option_map, refl, rules, subst, subst₂, sym, take, true, ℕ, ◌<◌, ◌∙◌, ◌≡◌, ◌≢◌, ◌≤◌, ◌⊎◌}
pub use Rattle.std.proofs.lemmas.Bool.{false≢true}
pub use Rattle.std.specs.FinMap.{get}
pub use Rattle.std.specs.Result.{OnOk}
