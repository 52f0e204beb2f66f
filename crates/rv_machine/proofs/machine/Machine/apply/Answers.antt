use Rattle.rv_machine.proofs.machine.Machine.apply.Goals as goal

pub returns-in-Set : goal.returns-in-Set
returns-in-Set c = rw c.in-Set.is (c.set.ensures c.args.input.now)

pub returns-in-Link : goal.returns-in-Link
returns-in-Link c = rw c.in-Link.is (c.link.ensures c.args.input.now)

pub returns-in-Branch : goal.returns-in-Branch
returns-in-Branch c = rw c.in-Branch.is (c.branch-self.ensures c.args.input.now)

pub returns-in-Load : goal.returns-in-Load
returns-in-Load c = rw c.in-Load.is (c.load_bytes.ensures c.args.input.now)

pub returns-in-Store : goal.returns-in-Store
returns-in-Store c = rw c.in-Store.is (c.store_bytes.ensures c.args.input.now)
