use Rattle.std.proofs.Common.{arith, ◌≡◌, length, rules}
use Rattle.codec_cursor.proofs.Views.{kept-size, take_counted}
use Rattle.events_tel.specs.Configs.{view_configs}
use Rattle.events_tel.proofs.Configs.trimmed.Goals as goal

pub returns : goal.returns
unfolding view_configs
returns c =
    let m = c.args.self in
    let full : length m.codes ≡ 8 = search rules in
    (rw c.size-count.ensures (take_counted m.count m.codes), omega (arith, c.size-count.ensures, kept-size m.count 8 m.codes full))
