-- `record::read` meets its contract: the record's width is that of its kind.
use mathlib.Core.Path.{◌≡◌, sym}
use native.Mathlib.Omega.{arith}
use Rattle.std.proofs.Common.{rules}
use Rattle.fields.specs.Fields.{field}
use Rattle.messages.specs.Records.{width_of}
use Rattle.messages.proofs.Found.{width_found, behind_kind, record_beyond, rest_cut, record_fits, record_found}
use Rattle.messages.proofs.record.read.Goals as goal
use Rattle.messages.proofs.record.read.Goals.{After-width-width}

module _ (c : After-width-width) where
  wide : c.width-width.result ≡ width_of (field c.args.log.now c.args.place 2)
  wide = width_found _ _ _ _ _ (sym c.in_ok-get.ensures) c.from.ensures c.width-width.ensures

pub returns-in_err-number : goal.returns-in_err-number
returns-in_err-number c = let e = rest_cut _ _ _ c.requires _ (wide (goal.at.returns-in_err-number c).After-width-width) _ (sym c.in_err-number.ensures) in search rules

pub padded-requires : goal.padded-requires
padded-requires c = record_fits _ _ _ c.requires _ (wide (goal.at.padded-requires c).After-width-width) _ (sym c.in_ok-number.ensures)

pub overflow_add-place : goal.overflow_add-place
overflow_add-place c =
    let e = behind_kind _ _ _ _ (sym c.in_ok-get.ensures) (wide (goal.at.overflow_add-place c).After-width-width) in
    record { fits = omega (arith, e) }

pub returns-then-end-place : goal.returns-then-end-place
returns-then-end-place c = let e = record_beyond _ _ _ c.requires _ (wide (goal.at.returns-then-end-place c).After-width-width) c.if-end-place.true in search rules

pub returns : goal.returns
returns c = let e = record_found _ _ _ c.requires _ (wide (goal.at.returns c).After-width-width) _ (sym c.in_ok-number.ensures) (omega arith) in search rules
