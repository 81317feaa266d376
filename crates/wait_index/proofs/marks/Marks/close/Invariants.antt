use Rattle.wait_index.proofs.marks.Marks.close.Given as goal

-- The fall is that of the touched labels: they are the open ones of those that are to be closed.
abbrev pub ghost-take_back : goal.ghost-take_back
ghost-take_back a = a.self.now.touched.items.items
