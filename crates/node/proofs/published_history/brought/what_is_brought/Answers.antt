use Rattle.node.proofs.published_history.brought.what_is_brought.Goals as goal

pub returns-clause-brought : goal.returns-clause-brought
returns-clause-brought c = record {
  entry_is = c.in-Some.ensures;
  info_is = λ t f. record {
    best_is = c.in-Ok.ensures.best t f;
    height_is = c.in-Ok.ensures.height t f;
    tips_are = c.in-Ok.ensures.tips t f;
  };
}
