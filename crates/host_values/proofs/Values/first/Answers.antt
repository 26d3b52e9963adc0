use Rattle.host_values.proofs.Values.first.Goals as goal

pub returns-in-Nothing : goal.returns-in-Nothing
returns-in-Nothing c = rw c.in-Nothing.is c.small.ensures

pub returns-in-One : goal.returns-in-One
returns-in-One c = rw c.in-One.is

pub returns-in-Two : goal.returns-in-Two
returns-in-Two c = rw c.in-Two.is
