use Rattle.index_pages.proofs.html.append_yanked.Goals as goal

pub returns-in-Some : goal.returns-in-Some
returns-in-Some g c = rw c.in-Some.is (rw (c.as_bytes.ensures.value, c.as_str.ensures) at c.append_attribute.ensures)
