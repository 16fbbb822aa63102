-- `parties::Party::row` meets its contract.
-- Assumes nothing.
use Rattle.std.proofs.Common.{◌≡◌, length, rules, ◌∙◌}
use Rattle.parties.proofs.Codes.{mapped_same, at_the_end}
use Rattle.parties.proofs.Party.row.Goals as goal

pub returns : goal.returns
returns c =
    let size : length c.args.self.code ≡ 16 = search rules in
    rw (c.copy_from_slice.ensures.after ∙ mapped_same c.map.ensures.items size (λ x y p q k. search rules)) (at_the_end c.args.self.code c.args.self.access size)
