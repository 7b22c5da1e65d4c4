-- The names that proofs of this crate take from elsewhere, from one place.
unfoldable pub use Rattle.index_digest.specs.Digest.{read_digest, text_of}
unfoldable pub use Rattle.index_pages.specs.Accept.{items_of}
pub use Rattle.index_pages.specs.Accept.{cut_at, item_of, skip_blanks}
unfoldable pub use Rattle.index_pages.specs.Html.{file_anchor, name_anchor}
pub use Rattle.index_pages.specs.Html.{bottom, reference}
unfoldable pub use Rattle.index_pages.specs.Json.{project_json, root_json}
pub use Rattle.index_pages.specs.Json.{names_of}
pub use Rattle.index_pages.specs.Pages.{is_json}
unfoldable pub use Rattle.index_pages.specs.Parts.{files_bottom, json_text, name_text}
pub use Rattle.index_pages.specs.Parts.{once, releases_text}
pub use Rattle.index_pages.specs.Pieces.{Adds, ExtendsText}
unfoldable pub use Rattle.index_pages.specs.Tally.{after_all}
pub use Rattle.index_pages.specs.Tally.{after, items_left, no_tally}
pub use Rattle.index_pages.specs.Versions.{with_release}
pub use Rattle.index_rules.specs.Maps.{Bytes}
pub use Rattle.index_rules.specs.Rows.{StoppedAt, Took}
pub use Rattle.index_rules.specs.declared.rows.FileRow.{FileRow}
pub use Rattle.index_rules.specs.declared.rows.NameRow.{NameRow}
unfoldable pub use Rattle.json.specs.Print.{escape_byte}
pub use Rattle.json.specs.Print.{escape}
pub use Rattle.json.specs.Run.{is_plain}
pub use Rattle.serde_json.specs.Data.{Data}
pub use Rattle.serde_json.specs.Written.{comma_if, compact_text, items_text}
pub use Rattle.std.proofs.Common.{Bool, Bor, Err, List, None, Ok, Option, Some, [], add-one, ap, append_assoc, arith, codes, cond, drop}
pub use Rattle.std.proofs.Common.{false, get_or, inl, inr, length, map, refl, rules, subst, suc, sym, take, true, ℕ, ◌++◌, ◌+◌, ◌-◌, ◌<◌}
pub use Rattle.std.proofs.Common.{◌==◌, ◌||◌, ◌∙◌, ◌∷◌, ◌≡◌, ◌≤◌}
pub use Rattle.std.proofs.lemmas.Bool.Decides.{nat_tests}
pub use Rattle.std.specs.List.{AllByRecursion, flat_map, list_all, list_any}
pub use Rattle.std.specs.Option.{option_map_or}
pub use Rattle.std.specs.Prelude.{Result}
pub use Rattle.std.specs.Str.{byte}
