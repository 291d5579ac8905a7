use Rattle.gl_opc.proofs.app.App.keeps.Goals as goal

pub returns-clause-rules : goal.returns-clause-rules
returns-clause-rules c = c.args.self.now.rules

pub returns-clause-made : goal.returns-clause-made
returns-clause-made c = c.args.self.now.made
