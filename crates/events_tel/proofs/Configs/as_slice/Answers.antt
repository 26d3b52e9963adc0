use Rattle.std.proofs.Common.{ℕ, ◌≡◌, ◌∙◌, sym, ap, length, take, rules}
use Rattle.codec_cursor.proofs.Views.{kept-size, take_counted}
use Rattle.events_tel.specs.Configs.{view_configs}
use Rattle.events_tel.proofs.Configs.as_slice.Goals as goal

pub returns : goal.returns
unfolding view_configs
returns c =
    let m = c.args.self.now in
    let full : length m.codes ≡ 8 = search rules in
    ap (λ (k : ℕ). take k m.codes) (c.min-n.ensures ∙ sym (kept-size m.count 8 m.codes full)) ∙ take_counted m.count m.codes
