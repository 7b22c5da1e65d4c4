use Rattle.std.proofs.Common.{ap}
use Rattle.std.specs.Slice.Iter.{iter_rest}
use Rattle.index_cli.specs.InMemory.{sent_on}
use Rattle.index_fault_tests.proofs.ClientLemmas.{first_lost}
use Rattle.index_fault_tests.proofs.tests.clients.ClientsConnections.accept.Goals as goal

pub returns-then-eq-clause-lost : goal.returns-then-eq-clause-lost
returns-then-eq-clause-lost g c =
    first_lost (λ exchange. exchange.0.now) sent_on _ c.client_of-client.result _ _ _ _ _ c.in-Some.ensures.steps
    (ap iter_rest c.keep.ensures.coming) c.keep.ensures.client c.client_of-client.ensures.unsent
