-- `lines::write_number` meets its contract.
-- Assumes nothing.
use Rattle.std.proofs.Common.{rules, ◌≡◌, ◌++◌, append_assoc, refl}
use Rattle.lines.proofs.Digits.{same_digits}
use Rattle.lines.specs.Text.{decimal}
use Rattle.lines.proofs.write_number.Goals as goal

pub returns-clause-text : goal.returns-clause-text
returns-clause-text g c =
    let digits : c.try_extend_from_slice.new.self.items ≡ c.args.lines.now.items ++ c.as_bytes-digits.result.now = search rules in
    let same = same_digits c.args.number c.ranges.number.fits in
    let text : c.as_bytes-digits.result.now ≡ decimal c.args.number = cc in
    rw (c.push.ensures.items, digits, text, append_assoc) refl
