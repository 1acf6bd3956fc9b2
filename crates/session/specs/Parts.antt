-- A session by its parts.
use Rattle.std.specs.Prelude.{List, ℕ, ℤ}
use Rattle.session.specs.declared.Session.{Session}

abbrev pub session_by : ℕ → List ℕ → List ℤ → List ℕ → List ℤ → List ℕ → List ℕ → List ℤ → List ℕ → ℕ → Session
session_by n ps vs ul uc um dl dc dm a =
    record {
      tree = record { count = n; parents = ps };
      values = vs;
      up = record { lease = ul; cache = uc; messages = um };
      down = record { lease = dl; cache = dc; messages = dm };
      accepted = a;
    }
