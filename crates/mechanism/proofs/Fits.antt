-- Every message of a request has bytes for nodes and a value of 40 bits, so none is a misfit, and the log reads back.
use mathlib.Core.Path.{◌≡◌, refl, ap₂, ◌∙◌}
use mathlib.Core.Bool.{true, ◌&&◌}
use mathlib.Core.List.{[], ◌∷◌}
use Prim.Native.Nat.{ℕ, zero, suc, ◌<◌}
use native.Mathlib.Omega.{arith}
use lib.Dec.{eqb}
use lib.IntN.{ℤ, +ℤ_idr}
use borrow.Author.Tests.{eqb-false, not-true}
use Rattle.twos.specs.Twos.{within}
use Rattle.tree.specs.Sizes.{size}
use Rattle.tree.specs.Ranges.{Range}
use Rattle.tree.proofs.Ranges.{range_adds, range_fits}
use Rattle.tree.proofs.Toward.{adjacent_sym}
use Rattle.messages.specs.Records.{AllSized}
use Rattle.messages.proofs.Logs.{log_reads_back}
use Rattle.messages.proofs.Stretches.{sized_append}
use Rattle.requests.specs.declared.Request.TheVariants.{Combine, Write}
use Rattle.session.specs.Holding.{value_of, lease_of}
use Rattle.session.specs.Soundness.{Sound}
use Rattle.session.specs.declared.Session.{Session}
use Rattle.mechanism.specs.Views.{view}
use Rattle.mechanism.specs.Requests.{valued, says}
use Rattle.mechanism.specs.Refusals.{all_fit}
use Rattle.mechanism.specs.Spreading.{released}
use Rattle.mechanism.specs.Pairwise.{reply_of, tell_of, Pair}
use Rattle.mechanism.specs.Promises.{MessagesFit, NeverMisfit, LogIsRequest, SumRanging, SumPlain, SumWritten}
use Rattle.mechanism.proofs.Others.{size_most}
use Rattle.mechanism.proofs.Asking.{asks, probes, responses}
use Rattle.mechanism.proofs.Telling.{tells, updates, releases}
use Rattle.mechanism.proofs.Walks.{combines_tour, writes_tour}
use Rattle.mechanism.proofs.Throughout.{tour_has}
use Rattle.mechanism.proofs.Sums.{reply_in, tell_in}

sized_release : (u v : ℕ) → u < 256 → v < 256 → (k : ℕ) → AllSized (released k u v)
sized_release u v hu hv zero = tt
sized_release u v hu hv (suc zero) = ((hv, hu, refl), tt)
sized_release u v hu hv (suc (suc k)) = tt

-- nodes of the tree are bytes, and a value in the range of a side has 40 bits
module _ (b : ℕ) (s : Session) (i : Sound b s) where
  byte : (u : ℕ) → u < s.tree.count → u < 256
  byte u hu = omega (arith, i.tree_in_rule.few)

  side_fits : (u v : ℕ) (z : ℤ) → Pair s u v → Range (size s.tree.parents s.tree.count u v) z → within 40 z ≡ true
  side_fits u v z p r =
      range_fits (size s.tree.parents s.tree.count u v) z
      (omega (arith, i.tree_in_rule.few, size_most s.tree.parents s.tree.count i.tree_in_rule.grown u v p.near p.far p.edge)) r

pub messages_fit : MessagesFit
messages_fit op b ranging s typed i (Combine x) small hx =
    rw (combines_tour op b s i x hx) (tour_has s.tree.parents s.tree.count (asks (view s)) probes (responses op (view s)) AllSized tt sized_append
    (λ w u hw hu a g.
    let p : Pair s w u = record { near = hw; far = hu; edge = a } in
    let fit = side_fits b s i w u (reply_of op s w u) p (reply_in op b ranging s typed i w u p) in
    (((byte b s i u hu, byte b s i w hw, refl), tt), ((byte b s i w hw, byte b s i u hu, fit), tt)))
    s.tree.count x hx)
messages_fit op b ranging s typed i (Write x z) small hx =
    rw (writes_tour op b s i x hx z) (tour_has s.tree.parents s.tree.count (tells (view s)) (updates op (view (valued s x z)) x) (releases (view s)) AllSized tt sized_append
    (λ w u hw hu a g.
    let p : Pair s u w = record { near = hu; far = hw; edge = adjacent_sym s.tree.parents w u ∙ a } in
    let fit = side_fits b s i u w (tell_of op s x z u w) p (tell_in op b ranging s typed i x z small hx u w p (eqb-false (lease_of s u w) 0 (not-true (eqb (lease_of s u w) 0) g))) in
    (((byte b s i u hu, byte b s i w hw, fit), tt), sized_release u w (byte b s i u hu) (byte b s i w hw) (lease_of s u w)))
    s.tree.count x hx)

pub never_misfit : NeverMisfit
unfolding all_fit
never_misfit [] h = refl
never_misfit (m ∷ ms) (p, h) = ap₂ ◌&&◌ p.2 (never_misfit ms h)

pub sum_ranging : SumRanging
sum_ranging = range_adds

pub sum_plain : SumPlain
sum_plain s u = +ℤ_idr (value_of s u)

pub sum_written : SumWritten
sum_written (Combine x) = tt
sum_written (Write x z) = +ℤ_idr z

pub log_is_request : LogIsRequest
log_is_request op b ranging s typed i r small hx log place = log_reads_back log place (says op s r).log (messages_fit op b ranging s typed i r small hx)
