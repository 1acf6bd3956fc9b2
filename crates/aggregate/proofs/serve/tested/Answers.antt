-- `serve::tested` meets its contract: the tree of a sound session is linked, and the request served.
use Rattle.aggregate.proofs.serve.tested.Goals as goal

pub of-links-requires : goal.of-links-requires
of-links-requires c = let r = c.requires.holds.tree_in_rule in (r.some, (r.few, r.grown))

pub request-requires : goal.request-requires
request-requires c = record { typed = c.requires.typed; holds = c.requires.holds; linked = c.of-links.ensures }
