-- `noise_report::report_of_one` meets its contract: each way out is one law. Assumes nothing.
use mathlib.Core.Path.{sym, ◌∙◌, subst}
use native.Mathlib.Omega.{arith}
use Rattle.rules.proofs.Choose.{via}
use Rattle.checks_shared.proofs.Bits.{bytes_of}
use Rattle.noise_report.specs.Numbers.{Small}
use Rattle.noise_report.proofs.Counted.{small_one, one-faulty, one-refused, one-missed, one-clean}
use Rattle.noise_report.proofs.report_of_one.Goals as goal

pub returns-then-not-right_crc : goal.returns-then-not-right_crc
returns-then-not-right_crc c = record { small = subst Small (sym c.one_record.ensures) (small_one _ _ _ _ (omega arith) (omega arith) (omega arith) (omega arith)); value = λ fine. c.one_record.ensures ∙ one-faulty _ _ (via c.right_crc.ensures c.if-not-right_crc.true) }

pub returns-then-n-eq0 : goal.returns-then-n-eq0
returns-then-n-eq0 c =
    let at = c in
    let f = at.args.sent.now in
    let g = at.args.received.now in record {
      small = subst Small (sym c.one_record-then-n-eq0.ensures) (small_one _ _ _ _ (omega arith) (omega arith) (omega arith) (omega arith));
      value = λ fine.
          c.one_record-then-n-eq0.ensures
          ∙ one-clean f g (bytes_of f (λ i. (at.shared_slice_known-1.given i).fits)) (bytes_of g (λ i. (at.shared_slice_known-2-1.given i).fits)) fine.alike
          (sym c.if-n-eq0.true ∙ at.bits-n.ensures.value fine)
          (via c.right_crc.ensures c.if-not-right_crc.false);
    }

pub returns-then-right_crc : goal.returns-then-right_crc
returns-then-right_crc c =
    let at = c in record {
      small = subst Small (sym c.one_record-then-right_crc.ensures) (small_one _ _ _ _ (omega arith) at.bits-n.ensures.upper_bound (omega arith) (omega arith));
      value = λ fine.
          c.one_record-then-right_crc.ensures
          ∙ one-missed _ _ _ (at.bits-n.ensures.value fine) c.if-n-eq0.false
          (via c.right_crc.ensures c.if-not-right_crc.false)
          (via c.right_crc-2.ensures c.if-right_crc.true);
    }

pub returns : goal.returns
returns c =
    let at = c in record {
      small = subst Small (sym c.one_record-2.ensures) (small_one _ _ _ _ (omega arith) at.bits-n.ensures.upper_bound (omega arith) (omega arith));
      value = λ fine.
          c.one_record-2.ensures
          ∙ one-refused _ _ _ (at.bits-n.ensures.value fine)
          (via c.right_crc.ensures c.if-not-right_crc.false)
          (via c.right_crc-2.ensures c.if-right_crc.false);
    }
