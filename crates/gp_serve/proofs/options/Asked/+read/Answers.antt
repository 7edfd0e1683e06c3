use Rattle.std.proofs.Common.{◌∙◌, ◌-◌, sym, ap, string_bytes, map, take, drop, length}
use Rattle.gp_serve.specs.Options.{asked_by, free_choice, option_with}
use Rattle.gp_serve.proofs.Asking.{one_option}
use Rattle.gp_serve.proofs.options.Asked.+read.Goals as goal

pub returns-in_ok-asked-in-len2-up : goal.returns-in_ok-asked-in-len2-up
returns-in_ok-asked-in-len2-up t c =
    let self = c.args.self in
    let name = c.name-item-2.result in
    let bytes = ap (λ b. option_with c.args.place self (free_choice b self) c.as_bytes-in-len2-up-2.result.now) c.as_bytes-in-len2-up.ensures.value ∙ ap (λ b. option_with c.args.place self (free_choice (string_bytes name) self) b) c.as_bytes-in-len2-up-2.ensures.value in
    c.read.ensures
    ∙ ap (λ place. asked_by place (map string_bytes (take (length c.args.words.now - 2) (drop 2 c.args.words.now))) c.in_ok-asked-in-len2-up.asked) c.saturating_add-in-len2-up.ensures
    ∙ one_option string_bytes c.args.words.now name c.value-item.result c.args.place self c.in_ok-asked-in-len2-up.asked c.in-len2-up.len_at_least c.name-item-2.is c.value-item.is (sym bytes ∙ sym c.with_option.ensures ∙ c.in_ok-asked-in-len2-up.was)
