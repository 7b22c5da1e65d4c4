-- The names that proofs of this crate take from elsewhere, from one place.
pub use Rattle.index_plain.specs.Bearers.{AreBearers}
pub use Rattle.index_plain.specs.Pairs.{pairs_of, without_first}
pub use Rattle.index_plain.specs.Plain.{plain_tables}
pub use Rattle.index_plain.specs.RowsOf.{rows_of_file}
pub use Rattle.index_plain.specs.Trees.{map_of, with_at}
pub use Rattle.index_rules.proofs.OwnerLists.{same-is}
pub use Rattle.index_rules.proofs.WalkLemmas.{GoesOn, GoesOn-all, GoesOn-early, GoesOn-more}
pub use Rattle.index_rules.specs.Effect.{without_name}
pub use Rattle.index_rules.specs.Maps.{Bytes, Map, Pairs, bytes_cmp, same}
pub use Rattle.index_rules.specs.Rows.{Took}
pub use Rattle.index_rules.specs.Sound.{is_undeleted_of}
pub use Rattle.index_rules.specs.TableRows.{file_row_in, is_held_row, name_row}
pub use Rattle.index_rules.specs.Tables.{Tables}
pub use Rattle.index_rules.specs.Walks.{EndsEarly, Walks}
pub use Rattle.index_rules.specs.declared.records.FileRecord.{FileRecord}
pub use Rattle.index_rules.specs.declared.records.NameRecord.{NameRecord}
pub use Rattle.index_rules.specs.declared.records.NameRecord.TheVariants.{Held}
pub use Rattle.index_rules.specs.declared.records.UserRecord.{UserRecord}
pub use Rattle.std.proofs.Common.{Bool, Err, List, MatchOption, None, Option, Some, T, [], ap, cond, false, filter, is_some, map, not}
pub use Rattle.std.proofs.Common.{option_copied, option_map, refl, rules, subst, sym, true, ◌&&◌, ◌++◌, ◌∙◌, ◌∷◌, ◌≡◌}
pub use Rattle.std.proofs.lemmas.Bool.{false≢true}
pub use Rattle.std.proofs.lemmas.Cmp.{nat_list_cmp_total}
pub use Rattle.std.proofs.lemmas.List.{append-nil}
pub use Rattle.std.proofs.lemmas.Map.Iter.{rest_all, rest_more}
pub use Rattle.std.proofs.lemmas.Map.Lookups.{exact_bytes}
pub use Rattle.std.proofs.lemmas.Result.{IfOk-weaker, on_ok_weaker}
pub use Rattle.std.specs.BTreeMap.{BTreeMap, is_at, keys}
pub use Rattle.std.specs.Cmp.{Equal-is, IsTotalOrder, eq_by_cmp_equiv}
pub use Rattle.std.specs.FinMap.{FinMap, IsAntisymmetric, empty, entries, entries_sorted, find, from_entries, get, get-empty, get-entries}
pub use Rattle.std.specs.FinMap.{get-from_entries, get-insert, get-remove, get-retain_keys, insert, is_sorted, remove, retain_keys}
pub use Rattle.std.specs.FinMap.{same_map}
pub use Rattle.std.specs.FinMap.Entries.{below_all, find-where_key}
pub use Rattle.std.specs.List.{list_any}
unfoldable pub use Rattle.std.specs.List.Sorted.{IsStrictlySortedBy}
pub use Rattle.std.specs.Map.Iter.{deref_pair}
pub use Rattle.std.specs.Option.{option_copied_mut, option_map_or}
pub use Rattle.std.specs.Ordering.{eq_by_cmp, is_eq}
pub use Rattle.std.specs.declared.cmp.Ordering.{Ordering}
pub use Rattle.std.specs.declared.cmp.Ordering.TheVariants.{Equal, Less}
