mod Numbers
mod InOrder
