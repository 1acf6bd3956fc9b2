-- What comes of a call is what the contract of its function allows: `Post` of its `Reads`, the contract as the source states it.
use mathlib.Core.Path.{sym, ap, ap₂, subst, ◌∙◌}
use Rattle.std.specs.Prelude.{length}
use Rattle.requests.specs.declared.Request.{Request}
use Rattle.session.specs.Told.{Started}
use Rattle.aggregate.specs.Serving.{served_of, log_of}
use Rattle.history.specs.History.{Result, of_request, result, Fresh, loaded, started}
use Rattle.history.specs.Promises.{CombineContract, WriteContract, RequestContract, RunContract, LoadContract, FreshContract}

pub combine_contract : CombineContract
unfolding result
combine_contract κ s s' x x' log log' place place' served h = rw (h.0, h.1)

pub write_contract : WriteContract
unfolding result
write_contract κ s s' x x' value value' log log' place place' served h small = rw (h.0, h.1)

pub request_contract : RequestContract
unfolding result
request_contract κ s s' r r' log log' place place' answer h =
    let f = sym (ap₂ (of_request r) h.0 h.1) in
    (λ x e. ap came (sym e) ∙ f, λ x value small e. ap came (sym e) ∙ f)
  where
    -- what comes of a request
    came : Request → Result
    came q = of_request q (served_of s q (length log.now) place) (log_of s q log.now place)

pub run_contract : RunContract
unfolding result
run_contract κ s s' list list' answers answers' log log' place place' ran h = rw (h.0, h.1, h.2)

pub load_contract : LoadContract
load_contract κ s s' bytes bytes' begun h = subst (λ (d : Started). Fresh d.session) (sym h) (loaded s.now bytes.now (ap (λ (d : Started). d.refusal) (sym h)))

pub fresh_contract : FreshContract
fresh_contract κ tree tree' begun h long = subst (λ (d : Started). Fresh d.session) (sym h) (started tree long (ap (λ (d : Started). d.refusal) (sym h)))
