-- A client who is sent other bytes than one before him does not meet the law of any two clients.
use Rattle.index.proofs.Words.{List, [], ◌∷◌, ◌++◌, Some, None, Ok, refl, subst, inl, inr, Contains, IsMessage, Whole, Bytes, Exchange}
use Rattle.index.proofs.Words.{no_faults, ClientGot, Run}
use Rattle.std.proofs.lemmas.List.Elements.{Contains-append_left, Contains-push, Contains-push_cases}
use Rattle.index_message.specs.Fields.{Field}
use Rattle.index_cli.specs.Connections.{exchange_of}
use Rattle.index_cli.specs.FilesServed.{get_of_file}
use Rattle.index.specs.Agree.{RefutesDisagreement, file_sent, run_of_client}

-- the client of the run got these bytes
client_got : (input file body bytes : Bytes) (fields : List Field) → IsMessage input (Whole (get_of_file file fields) body)
    → ClientGot (run_of_client input bytes) file bytes
client_got input file body bytes fields asked =
    let client : Exchange = exchange_of 0 (Some input) (Some []) (Some (file_sent bytes).bytes) no_faults in
    record {
      at = None;
      requests = 1;
      inputs = input ∷ [];
      later = Some [];
      had = [];
      has = Some (file_sent bytes ∷ []);
      result = Ok 0;
      is = refl;
      exchanges = client ∷ [];
      are = record {
        later = Some [];
        came = (Some (input ∷ []), refl, (input, [], refl, refl, refl));
        rest = inl refl;
        closed = (Some [], refl, refl, ((file_sent bytes).bytes, refl, refl));
      };
      client = client;
      among = inl refl;
      got = record {
        input = input;
        fields = fields;
        sent = body;
        given = refl;
        message = asked;
        had = refl;
        has = refl;
        unfailed = refl;
      };
    }

-- one more run that is like an earlier one
had_before : (runs : List Run) (run one : Run) → Contains runs run → Contains (runs ++ run ∷ []) one → Contains runs one
had_before runs run one has more = elim (Contains-push_cases runs run one more) [
  | inl earlier ↦ earlier
  | inr is ↦ subst (λ it. Contains runs it) is has
]

pub refutes_disagreement : RefutesDisagreement
refutes_disagreement runs input file body bytes other fields asked differ has agree = (
  λ one another is is'. agree one another (had_before runs (run_of_client input bytes) one has is)
      (had_before runs (run_of_client input bytes) another has is'),
  λ wrong. differ (wrong (run_of_client input bytes) (run_of_client input other)
      (Contains-append_left runs (run_of_client input other ∷ []) (run_of_client input bytes) has)
      (Contains-push runs (run_of_client input other)) file bytes other
      (client_got input file body bytes fields asked)
      (client_got input file body other fields asked)),
)
