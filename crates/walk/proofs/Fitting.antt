-- Of a sound session every partial sum of a walk fits 64 bits.
use mathlib.Core.Path.{◌≡◌}
use mathlib.Core.Bool.{true}
use Prim.Native.Nat.{ℕ, ◌^◌}
use native.Mathlib.Omega.{arith}
use lib.IntN.{ℤ}
use lib.Signed.{mag}
use mir.Syntax.{w64}
use mir.Val.{SFits}
use borrow.Author.Tests.{ltb-true}
use Rattle.twos.specs.Twos.{within}
use Rattle.tree.specs.Operation.{sum}
use Rattle.session.specs.Holding.{Typed}
use Rattle.session.specs.Soundness.{Sound}
use Rattle.session.specs.declared.Session.{Session}
use Rattle.mechanism.specs.Views.{view}
use Rattle.mechanism.specs.Combining.{sofar, ask}
use Rattle.mechanism.proofs.Fits.{sum_ranging}
use Rattle.mechanism.proofs.Sums.{partly_fits}
use Rattle.walk.specs.inner.Asking.{SumsFit}

-- what has 40 bits has 64
pub fits_wide : (z : ℤ) → within 40 z ≡ true → SFits w64 z
fits_wide z h = record { sfits = omega (arith, ltb-true (mag z) (2 ^ 39) h) }

pub sound_fit : (b : ℕ) (s : Session) → Typed s → Sound b s → SumsFit (view s)
sound_fit b s typed sound =
    record { fit = λ f u v k hu hv l. fits_wide (sofar sum (view s) (ask sum (view s) f) u v k).sum (partly_fits sum b sum_ranging s typed sound f u v k hu hv l) }
