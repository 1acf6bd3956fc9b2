-- What the functions that take a list's requests in turn ask for.
use Rattle.std.specs.Prelude.{◌≡◌, List, ℕ, ◌*◌, ◌<◌, ◌≤◌}
use Rattle.requests.specs.Reading.{judged_of}
use Rattle.requests.specs.declared.Request.{Request}
use Rattle.requests.specs.declared.Request.TheVariants.{Combine, Write}
use Rattle.session.specs.declared.Session.{Session}
use Rattle.aggregate.specs.Running.{list_refusal}
use Rattle.aggregate.specs.Told.{Outcome}
use Rattle.aggregate.specs.declared.Totals.{Totals}

-- a list that is not refused as a whole, with its count and the place of its first request
pub record Starting (s : Session) (list : List ℕ) (places count first : ℕ) : Type 0 where
  pub accepted : list_refusal s list places ≡ 0
  pub counted : count ≡ (judged_of list).requests
  pub begins : first ≡ (judged_of list).first

-- there is an answer place for a combine
abbrev pub HasPlace : Request → ℕ → ℕ → Type 0
HasPlace (Combine x) k places = k < places
HasPlace (Write x v) k places = Unit

-- one more request, its answers and its messages can be counted
pub record Addable (t : Totals) (k : ℕ) (o : Outcome) : Type 0 where
  pub few : t.requests < 4096
  pub answers_few : t.answers ≤ t.requests
  pub one : k ≤ 1
  pub messages_few : t.messages ≤ 510 * t.requests
  pub at_most_510 : o.messages ≤ 510
