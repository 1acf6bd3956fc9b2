-- `reader::requests` meets its contract: each turn goes one request on, and each return is what the format says.
use Rattle.requests.proofs.Walk.{Went}
use Rattle.requests.proofs.reader.requests.Given as goal

abbrev pub invariant-loop : goal.invariant-loop
invariant-loop l = Went l.list l.count l.place l.combines l.counter
