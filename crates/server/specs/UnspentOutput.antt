-- How an unspent output is spelled.
use Rattle.std.specs.Prelude.{codes}
use Rattle.std.specs.Fmt.{signed_decimal}
use Rattle.hex.specs.Hex.{encode_lower}
use Rattle.json.specs.Json.{boolean, number, Members, no_members, member}
use Rattle.serving.specs.Answers.{text, count}
use Rattle.node.specs.declared.answer.UnspentOutput.{UnspentOutput}

-- The members of an output's object.
abbrev pub unspent_members : UnspentOutput → Members
unspent_members o = member (codes "value") (number (signed_decimal o.value))
    (text (codes "script") (encode_lower o.script) (count (codes "height") o.height
    (member (codes "coinbase") (boolean o.coinbase) (count (codes "confirmations") o.confirmations no_members))))
