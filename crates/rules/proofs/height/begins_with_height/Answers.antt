use Rattle.std.proofs.Common.{◌≡◌, ◌==◌, ◌/◌, ◌%◌, ◌∙◌, get_or, ap, sym, arith}
use Rattle.std.specs.List.{starts_with}
use Rattle.rules.specs.Context.{height_push}
use Rattle.rules.proofs.Pushes.{none, opcode, one, two, three, four, five}
use Rattle.rules.proofs.height.begins_with_height.Goals as goal

pub returns-in-0 : goal.returns-in-0
returns-in-0 c = c.starts_with.ensures.value ∙ ap (starts_with (λ x y. x == y) c.args.script.now) (sym (ap height_push c.in-0.is ∙ none))

pub returns-in-1-to-16 : goal.returns-in-1-to-16
returns-in-1-to-16 c =
    let bytes = c.to_le_bytes.result in
    let b0 : get_or bytes 0 0 ≡ c.args.height % 256 = ap (λ b. get_or b 0 0) c.to_le_bytes.ensures in
    c.starts_with-in-1-to-16.ensures.value ∙ ap (starts_with (λ x y. x == y) c.args.script.now) (sym (opcode c.args.height (get_or bytes 0 0) (omega arith) (omega arith) (omega arith)))

pub returns-in-17-to-127 : goal.returns-in-17-to-127
returns-in-17-to-127 c =
    let bytes = c.to_le_bytes.result in
    let b0 : get_or bytes 0 0 ≡ c.args.height % 256 = ap (λ b. get_or b 0 0) c.to_le_bytes.ensures in
    c.starts_with-in-17-to-127.ensures.value ∙ ap (starts_with (λ x y. x == y) c.args.script.now) (sym (one c.args.height (get_or bytes 0 0) (omega arith) (omega arith) (omega arith)))

pub returns-in-128-to-32767 : goal.returns-in-128-to-32767
returns-in-128-to-32767 c =
    let bytes = c.to_le_bytes.result in
    let b0 : get_or bytes 0 0 ≡ c.args.height % 256 = ap (λ b. get_or b 0 0) c.to_le_bytes.ensures in
    let b1 : get_or bytes 1 0 ≡ c.args.height / 256 % 256 = ap (λ b. get_or b 1 0) c.to_le_bytes.ensures in
    c.starts_with-in-128-to-32767.ensures.value ∙ ap (starts_with (λ x y. x == y) c.args.script.now) (sym (two c.args.height (get_or bytes 0 0) (get_or bytes 1 0) (omega arith) (omega arith) (omega arith) (omega arith)))

pub returns-in-32768-to-8388607 : goal.returns-in-32768-to-8388607
returns-in-32768-to-8388607 c =
    let bytes = c.to_le_bytes.result in
    let b0 : get_or bytes 0 0 ≡ c.args.height % 256 = ap (λ b. get_or b 0 0) c.to_le_bytes.ensures in
    let b1 : get_or bytes 1 0 ≡ c.args.height / 256 % 256 = ap (λ b. get_or b 1 0) c.to_le_bytes.ensures in
    let b2 : get_or bytes 2 0 ≡ c.args.height / 65536 % 256 = ap (λ b. get_or b 2 0) c.to_le_bytes.ensures in
    c.starts_with-in-32768-to-8388607.ensures.value ∙ ap (starts_with (λ x y. x == y) c.args.script.now) (sym (three c.args.height (get_or bytes 0 0) (get_or bytes 1 0) (get_or bytes 2 0) (omega arith) (omega arith) (omega arith) (omega arith) (omega arith)))

pub returns-in-8388608-to-2147483647 : goal.returns-in-8388608-to-2147483647
returns-in-8388608-to-2147483647 c =
    let bytes = c.to_le_bytes.result in
    let b0 : get_or bytes 0 0 ≡ c.args.height % 256 = ap (λ b. get_or b 0 0) c.to_le_bytes.ensures in
    let b1 : get_or bytes 1 0 ≡ c.args.height / 256 % 256 = ap (λ b. get_or b 1 0) c.to_le_bytes.ensures in
    let b2 : get_or bytes 2 0 ≡ c.args.height / 65536 % 256 = ap (λ b. get_or b 2 0) c.to_le_bytes.ensures in
    let b3 : get_or bytes 3 0 ≡ c.args.height / 16777216 % 256 = ap (λ b. get_or b 3 0) c.to_le_bytes.ensures in
    c.starts_with-in-8388608-to-2147483647.ensures.value ∙ ap (starts_with (λ x y. x == y) c.args.script.now) (sym (four c.args.height (get_or bytes 0 0) (get_or bytes 1 0) (get_or bytes 2 0) (get_or bytes 3 0) (omega arith) (omega arith) (omega arith) (omega arith) (omega arith) (omega arith)))

pub returns-in_default : goal.returns-in_default
returns-in_default c =
    let bytes = c.to_le_bytes.result in
    let b0 : get_or bytes 0 0 ≡ c.args.height % 256 = ap (λ b. get_or b 0 0) c.to_le_bytes.ensures in
    let b1 : get_or bytes 1 0 ≡ c.args.height / 256 % 256 = ap (λ b. get_or b 1 0) c.to_le_bytes.ensures in
    let b2 : get_or bytes 2 0 ≡ c.args.height / 65536 % 256 = ap (λ b. get_or b 2 0) c.to_le_bytes.ensures in
    let b3 : get_or bytes 3 0 ≡ c.args.height / 16777216 % 256 = ap (λ b. get_or b 3 0) c.to_le_bytes.ensures in
    c.starts_with-in_default.ensures.value ∙ ap (starts_with (λ x y. x == y) c.args.script.now) (sym (five c.args.height (get_or bytes 0 0) (get_or bytes 1 0) (get_or bytes 2 0) (get_or bytes 3 0) (omega arith) (omega arith) (omega arith) (omega arith) (omega arith) (omega arith)))
