-- Each way says which function it is. Assumes nothing.
use borrow.Author.Tests.{ne_eqb}
use mathlib.Core.Path.{◌∙◌, sym}
use Rattle.masters.proofs.Functions.{by-function, by_key, asked-as, unknown}
use Rattle.masters.proofs.bodies.body_touched.Goals as goal

pub returns-in-1 : goal.returns-in-1
returns-in-1 c = by_key _ c.args.attributes.now c.args.profile c.args.body.now 0x1 c.byte_at-function.ensures c.in-1.is (c.coils_read.ensures c.args.profile)

pub returns-in-3 : goal.returns-in-3
returns-in-3 c = by_key _ c.args.attributes.now c.args.profile c.args.body.now 0x3 c.byte_at-function.ensures c.in-3.is (c.registers_read.ensures c.args.profile)

pub returns-in-5 : goal.returns-in-5
returns-in-5 c = by_key _ c.args.attributes.now c.args.profile c.args.body.now 0x5 c.byte_at-function.ensures c.in-5.is (c.coil_written.ensures c.args.profile)

pub returns-in-6 : goal.returns-in-6
returns-in-6 c = by_key _ c.args.attributes.now c.args.profile c.args.body.now 0x6 c.byte_at-function.ensures c.in-6.is c.register_written.ensures

pub returns-in-15 : goal.returns-in-15
returns-in-15 c = by_key _ c.args.attributes.now c.args.profile c.args.body.now 0xf c.byte_at-function.ensures c.in-15.is (c.coils_written.ensures c.args.profile)

pub returns-in-16 : goal.returns-in-16
returns-in-16 c = by_key _ c.args.attributes.now c.args.profile c.args.body.now 0x10 c.byte_at-function.ensures c.in-16.is c.registers_written.ensures

pub returns-in-22 : goal.returns-in-22
returns-in-22 c = by_key _ c.args.attributes.now c.args.profile c.args.body.now 0x16 c.byte_at-function.ensures c.in-22.is c.register_masked.ensures

pub returns-in_default : goal.returns-in_default
returns-in_default c =
    asked-as _ c.args.attributes.now c.args.profile
    (sym (unknown c.args.body.now c.byte_at-function.result (ne_eqb _ _ c.in_default.in_default-own.rest.0.0.0.0.0.0.1) (ne_eqb _ _ c.in_default.in_default-own.rest.0.0.0.0.0.1) (ne_eqb _ _ c.in_default.in_default-own.rest.0.0.0.0.1) (ne_eqb _ _ c.in_default.in_default-own.rest.0.0.0.1) (ne_eqb _ _ c.in_default.in_default-own.rest.0.0.1) (ne_eqb _ _ c.in_default.in_default-own.rest.0.1) (ne_eqb _ _ c.in_default.in_default-own.rest.1)) ∙ by-function c.args.body.now c.byte_at-function.ensures) c.nothing.ensures
