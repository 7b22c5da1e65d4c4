use Rattle.std.proofs.Common.{Some, map, refl, ap}
use Rattle.index_cli.specs.InMemory.{sent_on}
use Rattle.index_fault_tests.proofs.ClientLemmas.{are_named}
use Rattle.index_fault_tests.proofs.tests.clients.answer_clients.Goals as goal

pub returns : goal.returns
returns g c =
    let it = c.answer_connections.ensures.answers in
    record {
      named = record {
        exchanges = it.exchanges;
        are = are_named _ _ c.args.clients.now c.answer_connections.new.connections _ _ refl
            (ap (λ it. Some (map sent_on it)) c.requires.new) refl it.exchanges it.are;
        counted = it.counted;
        are_given = it.are_given;
        answered = it.answered;
        went = it.went;
      };
    }
