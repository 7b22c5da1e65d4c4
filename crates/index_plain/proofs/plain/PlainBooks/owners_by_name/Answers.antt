use Rattle.index_plain.proofs.Words.{◌≡◌, refl, sym, ap, ◌∙◌, option_copied, keys, nat_list_cmp_total, IfOk-weaker, bytes_cmp, map_of}
use Rattle.index_plain.proofs.Words.{plain_tables}
use Rattle.index_plain.proofs.TreeLemmas.{get_map}
use Rattle.index_plain.proofs.OwnerLemmas.{owners_found, no_owners}
use Rattle.index_plain.proofs.plain.PlainBooks.owners_by_name.Goals as goal

pub returns-in-Some : goal.returns-in-Some
returns-in-Some c =
    let books = c.args.self.now in
    let name = c.args.name.now in
    let users = c.in-Some.users.now in
    let found = get_map nat_list_cmp_total books.owners name ∙ sym c.get.ensures.value ∙ ap option_copied c.in-Some.is in
    IfOk-weaker c.owners_from.result (λ owners. owners ≡ keys users) _
    (λ owners all. all ∙ owners_found (plain_tables books) (map_of bytes_cmp books.owners)
    name refl users found c.owners_from.ensures.rising)
    c.owners_from.ensures.owners

pub returns-in-None : goal.returns-in-None
returns-in-None c =
    let books = c.args.self.now in
    let name = c.args.name.now in
    c.new-in-None.ensures ∙ c.new.ensures.items
    ∙ no_owners (plain_tables books) (map_of bytes_cmp books.owners) name refl
    (get_map nat_list_cmp_total books.owners name ∙ sym c.get.ensures.value ∙ ap option_copied c.in-None.is)
